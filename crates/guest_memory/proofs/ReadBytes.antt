-- Bytes read from the pages of a directory.
use Rattle.std.proofs.Common.{◌≡◌, ℕ, zero, suc, ◌+◌, ◌<◌, ◌≤◌, ◌/◌, ◌%◌, List, ◌∷◌, ◌++◌, length, get_or, take, drop, arith, refl, ap, ap₂, sym, ◌∙◌, length-take, length-append, append_assoc, drop-cons, add-one}
use Rattle.std.proofs.Math.Seq.{take-append_seam}
use Rattle.guest_words.specs.declared.rights.Rights.{Rights}
use Rattle.guest_memory.specs.Pages.{page_of, overwritten}
use Rattle.guest_memory.specs.State.{memory_in}
use Rattle.guest_memory.specs.Memory.{Memory, bytes_at}

pub bytes_at-add : (m : Memory) (at a b : ℕ) → bytes_at m at (a + b) ≡ bytes_at m at a ++ bytes_at m (at + a) b
bytes_at-add m at zero b =
    let e : 0 + b ≡ b = omega arith in
    let f : at ≡ at + 0 = omega arith in
    ap₂ (λ (k a : ℕ). bytes_at m a k) e f
bytes_at-add m at (suc a) b =
    let e : suc a + b ≡ suc (a + b) = omega arith in
    let f : (at + 1) + a ≡ at + suc a = omega arith in
    ap (λ (k : ℕ). bytes_at m at k) e
    ∙ ap (λ (xs : List ℕ). m.byte at ∷ xs) (bytes_at-add m (at + 1) a b ∙ ap (λ (k : ℕ). bytes_at m (at + 1) a ++ bytes_at m k b) f)

first_of_rest : (xs : List ℕ) (i n : ℕ) → i < length xs → take (suc n) (drop i xs) ≡ get_or xs i 0 ∷ take n (drop (i + 1) xs)
first_of_rest xs i n lt = rw (add-one, drop-cons xs i 0) refl

-- the bytes of a page are the memory's
pub bytes_within : (d : List (List (Rights × List ℕ))) (at n : ℕ) → at % 4096 + n ≤ length (page_of d (at / 4096)).1 → length (page_of d (at / 4096)).1 ≤ 4096 → take n (drop (at % 4096) (page_of d (at / 4096)).1) ≡ bytes_at (memory_in d) at n
bytes_within d at zero fits size = refl
bytes_within d at (suc zero) fits size = first_of_rest (page_of d (at / 4096)).1 (at % 4096) 0 (omega arith)
bytes_within d at (suc (suc n)) fits size =
    let page : (at + 1) / 4096 ≡ at / 4096 = omega arith in
    let start : (at + 1) % 4096 ≡ at % 4096 + 1 = omega arith in
    let long : length (page_of d ((at + 1) / 4096)).1 ≡ length (page_of d (at / 4096)).1 = ap (λ (p : ℕ). length (page_of d p).1) page in
    let rest = bytes_within d (at + 1) (suc n) (omega arith) (omega arith) in
    first_of_rest (page_of d (at / 4096)).1 (at % 4096) (suc n) (omega arith)
    ∙ ap (λ (xs : List ℕ). (memory_in d).byte at ∷ xs)
    (ap₂ (λ (p s : ℕ). take (suc n) (drop s (page_of d p).1)) (sym page) (sym start) ∙ rest)

pub take_overwritten : (xs : List ℕ) (done n : ℕ) (ys : List ℕ) → length ys ≡ n → done ≤ length xs → take (done + n) (overwritten xs done ys) ≡ take done xs ++ ys
take_overwritten xs done n ys long le =
    let front : length (take done xs) ≡ done = simp length-take (omega arith) in
    let both : length (take done xs ++ ys) ≡ done + n = length-append (take done xs) ys ∙ ap₂ (λ (a b : ℕ). a + b) front long in
    ap₂ (λ (k : ℕ) (l : List ℕ). take k l) (sym both) (sym (append_assoc (take done xs) ys (drop (done + length ys) xs)))
    ∙ take-append_seam (take done xs ++ ys) (drop (done + length ys) xs)

pub length-bytes_at : (m : Memory) (at n : ℕ) → length (bytes_at m at n) ≡ n
length-bytes_at m at zero = refl
length-bytes_at m at (suc n) = ap suc (length-bytes_at m (at + 1) n)
