-- Pages that are put, taken away or given other rights.
use Rattle.std.proofs.Common.{◌≡◌, ◌≢◌, ℕ, ◌+◌, ◌<◌, ◌≤◌, ◌/◌, ◌%◌, Bool, true, false, cond, List, [], length, get_or, Option, Some, arith, ap, sym, ◌∙◌, inl, inr, ◌⊎◌}
use Rattle.std.specs.Option.{is_some}
use Rattle.std.proofs.lemmas.Bool.{cases_eq, cases_lt}
use Rattle.std.proofs.lemmas.Bool.Decides.{nat_tests}
use Rattle.guest_words.specs.declared.rights.Rights.{Rights}
use Rattle.guest_memory.specs.Pages.{IsPlaced, page_of, with_page, zeros}
use Rattle.guest_memory.specs.State.{memory_in, rights_of}
use Rattle.guest_memory.specs.Memory.{Memory, is_among, with_pages, with_rights, no_memory}
use Rattle.guest_memory.proofs.Accesses.{rights_some, some_bytes}
use Rattle.guest_memory.proofs.WrittenBytes.{among_yes}
use Rattle.guest_memory.proofs.Directories.{with_table, page_with_table, empty_directory, empty_page, page_here, page_there, placed, zeros_at}

pub among_one : (n q : ℕ) → q ≡ n → is_among n 1 q ≡ true
among_one n q same = grind (arith, nat_tests)

pub among_other : (n q : ℕ) → q ≢ n → is_among n 1 q ≡ false
among_other n q differs = elim (cases_lt q n) [
  | inl low ↦ grind (arith, nat_tests)
  | inr from ↦ let past : n + 1 ≤ q = omega arith in grind (arith, nat_tests)
]

pub among_none : (n q : ℕ) → is_among n 0 q ≡ false
among_none n q = elim (cases_lt q n) [ inl low ↦ grind (arith, nat_tests) | inr from ↦ grind (arith, nat_tests) ]

among_next : (n k q : ℕ) → q ≢ n → is_among (n + 1) k q ≡ is_among n (k + 1) q
among_next n k q differs = elim (cases_lt q n) [
  | inl low ↦ grind (arith, nat_tests)
  | inr from ↦ let past : n + 1 ≤ q = omega arith in elim (cases_lt q (n + 1 + k)) [ inl high ↦ grind (arith, nat_tests) | inr over ↦ grind (arith, nat_tests) ]
]

among_last : (n k q : ℕ) → q ≢ n + k → is_among n k q ≡ is_among n (k + 1) q
among_last n k q differs = elim (cases_lt q (n + k)) [
  | inl low ↦ grind (arith, nat_tests)
  | inr from ↦ let past : n + k + 1 ≤ q = omega arith in grind (arith, nat_tests)
]

among_first : (n k : ℕ) → is_among n (k + 1) n ≡ true
among_first n k = grind (arith, nat_tests)

pub empty_memory : memory_in empty_directory ≡ no_memory
empty_memory = λ i. record { rights = λ n. ap rights_of (empty_page n) i; byte = λ q. ap (λ (p : Rights × List ℕ). get_or p.1 (q % 4096) 0) (empty_page (q / 4096)) i }

-- a page of zeros, or of no byte, is put in its place
pub put_memory : (d : List (List (Rights × List ℕ))) (number : ℕ) (p : Rights × List ℕ) → IsPlaced d number → (p.1 ≡ []) ⊎ (p.1 ≡ zeros) → memory_in (with_page d number p) ≡ with_pages (memory_in d) number 1 (rights_of p)
put_memory d number p place zero_or_none = λ i. record { rights = λ n. rights_at n i; byte = λ q. byte_at q i } where
  rights_at : (n : ℕ) → rights_of (page_of (with_page d number p) n) ≡ cond (is_among number 1 n) (rights_of p) (rights_of (page_of d n))
  rights_at n = elim (cases_eq n number) [
    | inl same ↦ ap (λ (k : ℕ). rights_of (page_of (with_page d number p) k)) same ∙ ap rights_of (page_here d number p place) ∙ ap (λ (b : Bool). cond b (rights_of p) (rights_of (page_of d n))) (sym (among_one number n same))
    | inr differs ↦ ap rights_of (page_there d number p n place differs) ∙ ap (λ (b : Bool). cond b (rights_of p) (rights_of (page_of d n))) (sym (among_other number n differs))
  ]

  zero_here : (k : ℕ) → get_or p.1 k 0 ≡ 0
  zero_here k = elim zero_or_none [ inl none ↦ ap (λ (b : List ℕ). get_or b k 0) none | inr full ↦ ap (λ (b : List ℕ). get_or b k 0) full ∙ zeros_at k ]

  byte_at : (q : ℕ) → get_or (page_of (with_page d number p) (q / 4096)).1 (q % 4096) 0 ≡ cond (is_among number 1 (q / 4096)) 0 (get_or (page_of d (q / 4096)).1 (q % 4096) 0)
  byte_at q = elim (cases_eq (q / 4096) number) [
    | inl same ↦ ap (λ (k : ℕ). get_or (page_of (with_page d number p) k).1 (q % 4096) 0) same ∙ ap (λ (w : Rights × List ℕ). get_or w.1 (q % 4096) 0) (page_here d number p place) ∙ zero_here (q % 4096) ∙ ap (λ (b : Bool). cond b 0 (get_or (page_of d (q / 4096)).1 (q % 4096) 0)) (sym (among_one number (q / 4096) same))
    | inr differs ↦ ap (λ (w : Rights × List ℕ). get_or w.1 (q % 4096) 0) (page_there d number p (q / 4096) place differs) ∙ ap (λ (b : Bool). cond b 0 (get_or (page_of d (q / 4096)).1 (q % 4096) 0)) (sym (among_other number (q / 4096) differs))
  ]

-- a mapped page is given other rights
pub rights_memory : (d : List (List (Rights × List ℕ))) (number : ℕ) (rights : Rights) → is_some (rights_of (page_of d number)) ≡ true → memory_in (with_page d number (rights, (page_of d number).1)) ≡ with_rights (memory_in d) number 1 rights
rights_memory d number rights mapped = λ i. record { rights = λ n. rights_at n i; byte = λ q. byte_at q i } where
  some : 0 < length (page_of d number).1
  some = some_bytes (page_of d number) mapped

  rights_at : (n : ℕ) → rights_of (page_of (with_page d number (rights, (page_of d number).1)) n) ≡ cond (is_among number 1 n) (Some rights) (rights_of (page_of d n))
  rights_at n = elim (cases_eq n number) [
    | inl same ↦ ap (λ (k : ℕ). rights_of (page_of (with_page d number (rights, (page_of d number).1)) k)) same ∙ ap rights_of (page_here d number (rights, (page_of d number).1) (placed d number some)) ∙ rights_some rights (page_of d number).1 some ∙ ap (λ (b : Bool). cond b (Some rights) (rights_of (page_of d n))) (sym (among_one number n same))
    | inr differs ↦ ap rights_of (page_there d number (rights, (page_of d number).1) n (placed d number some) differs) ∙ ap (λ (b : Bool). cond b (Some rights) (rights_of (page_of d n))) (sym (among_other number n differs))
  ]

  byte_at : (q : ℕ) → get_or (page_of (with_page d number (rights, (page_of d number).1)) (q / 4096)).1 (q % 4096) 0 ≡ get_or (page_of d (q / 4096)).1 (q % 4096) 0
  byte_at q = elim (cases_eq (q / 4096) number) [
    | inl same ↦ ap (λ (k : ℕ). get_or (page_of (with_page d number (rights, (page_of d number).1)) k).1 (q % 4096) 0) same ∙ ap (λ (w : Rights × List ℕ). get_or w.1 (q % 4096) 0) (page_here d number (rights, (page_of d number).1) (placed d number some)) ∙ ap (λ (k : ℕ). get_or (page_of d k).1 (q % 4096) 0) (sym same)
    | inr differs ↦ ap (λ (w : Rights × List ℕ). get_or w.1 (q % 4096) 0) (page_there d number (rights, (page_of d number).1) (q / 4096) (placed d number some) differs)
  ]

-- a choice at the first of a range, then at the rest
choice_next : {T : Type 0} (n k q : ℕ) (o x : T) → cond (is_among n 1 q) o (cond (is_among (n + 1) k q) o x) ≡ cond (is_among n (k + 1) q) o x
choice_next n k q o x = elim (cases_eq q n) [
  | inl same ↦ ap (λ (b : Bool). cond b o (cond (is_among (n + 1) k q) o x)) (among_one n q same) ∙ sym (ap (λ (b : Bool). cond b o x) (ap (λ (j : ℕ). is_among n (k + 1) j) same ∙ among_first n k))
  | inr differs ↦ ap (λ (b : Bool). cond b o (cond (is_among (n + 1) k q) o x)) (among_other n q differs) ∙ ap (λ (b : Bool). cond b o x) (among_next n k q differs)
]

pub with_pages-next : (m : Memory) (n k : ℕ) (o : Option Rights) → with_pages (with_pages m (n + 1) k o) n 1 o ≡ with_pages m n (k + 1) o
with_pages-next m n k o = λ i. record { rights = λ q. choice_next n k q o (m.rights q) i; byte = λ q. choice_next n k (q / 4096) 0 (m.byte q) i }

-- a choice in a range, then at the place behind it
choice_last : {T : Type 0} (n k q : ℕ) (o x : T) → cond (is_among (n + k) 1 q) o (cond (is_among n k q) o x) ≡ cond (is_among n (k + 1) q) o x
choice_last n k q o x = elim (cases_eq q (n + k)) [
  | inl same ↦ ap (λ (b : Bool). cond b o (cond (is_among n k q) o x)) (among_one (n + k) q same) ∙ sym (ap (λ (b : Bool). cond b o x) (among_yes n (k + 1) q (omega arith) (omega arith)))
  | inr differs ↦ ap (λ (b : Bool). cond b o (cond (is_among n k q) o x)) (among_other (n + k) q differs) ∙ ap (λ (b : Bool). cond b o x) (among_last n k q differs)
]

pub with_pages-last : (m : Memory) (n k : ℕ) (o : Option Rights) → with_pages (with_pages m n k o) (n + k) 1 o ≡ with_pages m n (k + 1) o
with_pages-last m n k o = λ i. record { rights = λ q. choice_last n k q o (m.rights q) i; byte = λ q. choice_last n k (q / 4096) 0 (m.byte q) i }

pub with_rights-last : (m : Memory) (n k : ℕ) (r : Rights) → with_rights (with_rights m n k r) (n + k) 1 r ≡ with_rights m n (k + 1) r
with_rights-last m n k r = λ i. record { rights = λ q. choice_last n k q (Some r) (m.rights q) i; byte = m.byte }

-- an empty table that is filled with absent pages changes no memory
pub table_memory : (d : List (List (Rights × List ℕ))) (a : ℕ) → a < length d → length (get_or d a []) ≡ 0 → memory_in (with_table d a) ≡ memory_in d
table_memory d a lt none = λ i. record { rights = λ n. ap rights_of (page_with_table d a n lt none) i; byte = λ q. ap (λ (p : Rights × List ℕ). get_or p.1 (q % 4096) 0) (page_with_table d a (q / 4096) lt none) i }
