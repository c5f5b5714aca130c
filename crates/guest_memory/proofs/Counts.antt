-- How many pages are mapped, after one is changed.
use Rattle.std.proofs.Common.{◌≡◌, ◌≢◌, ℕ, zero, suc, ◌+◌, ◌-◌, ◌<◌, ◌≤◌, Bool, true, cond, Option, None, Some, arith, refl, ap, ap₂, ◌∙◌, inl, inr}
use Rattle.std.specs.Option.{is_some}
use Rattle.std.proofs.lemmas.Bool.{cases_eq}
use Rattle.guest_words.specs.declared.rights.Rights.{Rights}
use Rattle.guest_memory.specs.Memory.{Memory, is_among, with_pages, with_rights, no_memory, count_mapped, mapped_pages}
use Rattle.guest_memory.proofs.PageChanges.{among_one, among_other, with_pages-next}
use Rattle.guest_memory.proofs.WrittenBytes.{among_below, among_past}

-- 1 for a mapped page
abbrev pub one : Option Rights → ℕ
one o = cond (is_some o) 1 0

pub one-most : (o : Option Rights) → one o ≤ 1
one-most None = omega arith
one-most (Some r) = omega arith

-- the rights after one page is changed
abbrev pub changed : (ℕ → Option Rights) → ℕ → Option Rights → ℕ → Option Rights
changed rights n o q = cond (is_among n 1 q) o (rights q)

count_before : (rights : ℕ → Option Rights) (n : ℕ) (o : Option Rights) (first k : ℕ) → n < first → count_mapped (changed rights n o) first k ≡ count_mapped rights first k
unfolding count_mapped
count_before rights n o first zero low = refl
count_before rights n o first (suc k) low =
    let differs : first ≢ n = omega arith in
    ap₂ (λ (b : Bool) (x : ℕ). one (cond b o (rights first)) + x) (among_other n first differs) (count_before rights n o (first + 1) k (omega arith))

pub count_changed : (rights : ℕ → Option Rights) (n : ℕ) (o : Option Rights) (first k : ℕ) → first ≤ n → n < first + k → count_mapped (changed rights n o) first k + one (rights n) ≡ count_mapped rights first k + one o
unfolding count_mapped
count_changed rights n o first zero low high = absurd (omega arith)
count_changed rights n o first (suc k) low high = elim (cases_eq first n) [
  | inl same ↦
      let here : one (changed rights n o first) ≡ one o = ap (λ (b : Bool). one (cond b o (rights first))) (among_one n first same) in
      let there : one (rights first) ≡ one (rights n) = ap (λ (q : ℕ). one (rights q)) same in
      let rest = count_before rights n o (first + 1) k (omega arith) in
      omega (arith, here, there, rest)
  | inr differs ↦
      let here : one (changed rights n o first) ≡ one (rights first) = ap (λ (b : Bool). one (cond b o (rights first))) (among_other n first differs) in
      let rest = count_changed rights n o (first + 1) k (omega arith) (omega arith) in
      omega (arith, here, rest)
]

pub count_none : (first k : ℕ) → count_mapped no_memory.rights first k ≡ 0
unfolding count_mapped
count_none first zero = refl
count_none first (suc k) = let rest = count_none (first + 1) k in omega (arith, rest)

-- one page of a memory is changed
pub count_of_change : (s t : Memory) (n : ℕ) (o : Option Rights) → n < 1048576 → t ≡ with_pages s n 1 o → mapped_pages t + one (s.rights n) ≡ mapped_pages s + one o
count_of_change s t n o range is = ap (λ (m : Memory). mapped_pages m + one (s.rights n)) is ∙ count_changed s.rights n o 0 1048576 (omega arith) (omega arith)

pub count_of_rights : (s t : Memory) (n : ℕ) (r : Rights) → n < 1048576 → is_some (s.rights n) ≡ true → t ≡ with_rights s n 1 r → mapped_pages t ≡ mapped_pages s
count_of_rights s t n r range mapped is =
    let same : mapped_pages t ≡ mapped_pages (with_rights s n 1 r) = ap mapped_pages is in
    let here : one (s.rights n) ≡ 1 = ap (λ (b : Bool). cond b 1 0) mapped in
    let whole = count_changed s.rights n (Some r) 0 1048576 (omega arith) (omega arith) in
    omega (arith, same, here, whole)

-- a range is changed from its end down
pub pages_down : (m s t : Memory) (first left count : ℕ) (o : Option Rights) → 0 < left → left ≤ count → s ≡ with_pages m (first + left) (count - left) o → t ≡ with_pages s (first + (left - 1)) 1 o → t ≡ with_pages m (first + (left - 1)) (count - (left - 1)) o
pages_down m s t first left count o some few before is =
    let place : first + left ≡ (first + (left - 1)) + 1 = omega arith in
    let more : (count - left) + 1 ≡ count - (left - 1) = omega arith in
    is
    ∙ ap (λ (v : Memory). with_pages v (first + (left - 1)) 1 o) (before ∙ ap (λ (n : ℕ). with_pages m n (count - left) o) place)
    ∙ with_pages-next m (first + (left - 1)) (count - left) o
    ∙ ap (λ (k : ℕ). with_pages m (first + (left - 1)) k o) more

-- below the changed end of a range all is as before
pub rights_below : (m s : Memory) (first count : ℕ) (o : Option Rights) (n : ℕ) → s ≡ with_pages m first count o → n < first → s.rights n ≡ m.rights n
rights_below m s first count o n is low = ap (λ (v : Memory). v.rights n) is ∙ ap (λ (b : Bool). cond b o (m.rights n)) (among_below first count n low)

-- behind the pages that were given other rights all is as before
pub rights_past : (m s : Memory) (first count : ℕ) (r : Rights) → s ≡ with_rights m first count r → s.rights (first + count) ≡ m.rights (first + count)
rights_past m s first count r is = ap (λ (v : Memory). v.rights (first + count)) is ∙ ap (λ (b : Bool). cond b (Some r) (m.rights (first + count))) (among_past first count (first + count) (omega arith))
