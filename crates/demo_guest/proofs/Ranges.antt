-- Numbers from one on, and what grows with them.
use Rattle.std.proofs.Common.{◌≡◌, ℕ, zero, suc, ◌+◌, ◌*◌, ◌≤◌, List, [], ◌∷◌, ◌++◌, map, ap, ◌∙◌, arith, append-nil, refl}
use Rattle.std.specs.List.{flat_map, range_with_len, sum_by}
use Rattle.std.proofs.lemmas.Grind.{flat_map-append}
use Rattle.std.proofs.lemmas.List.Sums.{sum_by_push}
use Rattle.std.proofs.lemmas.List.{map-append}
use Rattle.demo_guest.specs.Guest.{reads, words_before}

pub range_more : (a n : ℕ) → range_with_len a (n + 1) ≡ range_with_len a n ++ (a + n) ∷ []
range_more a zero = ap (λ (x : ℕ). x ∷ []) (omega arith)
range_more a (suc n) =
    let next : a + 1 + n ≡ a + suc n = omega arith in
    let same : suc n + 1 ≡ suc (n + 1) = omega arith in
    ap (range_with_len a) same ∙ ap (λ (xs : List ℕ). a ∷ xs) (range_more (a + 1) n ∙ ap (λ (x : ℕ). range_with_len (a + 1) n ++ x ∷ []) next)

pub from_zero : (n : ℕ) → range_with_len 0 (n + 1) ≡ range_with_len 0 n ++ n ∷ []
from_zero n =
    let same : 0 + n ≡ n = omega arith in
    range_more 0 n ∙ ap (λ (x : ℕ). range_with_len 0 n ++ x ∷ []) same

pub flat_map_more : {X : Type 0} (f : ℕ → List X) (n : ℕ) → flat_map f (range_with_len 0 (n + 1)) ≡ flat_map f (range_with_len 0 n) ++ f n
flat_map_more f n =
    ap (flat_map f) (from_zero n) ∙ flat_map-append f (range_with_len 0 n) (n ∷ [])
    ∙ ap (λ xs. flat_map f (range_with_len 0 n) ++ xs) (append-nil (f n))

pub words_more : (n : ℕ) → words_before (n + 1) ≡ words_before n + (reads n + 1)
unfolding words_before
words_more n = ap (sum_by (λ k. reads k + 1)) (from_zero n) ∙ sum_by_push (λ k. reads k + 1) (range_with_len 0 n) n

pub words_none : words_before 0 ≡ 0
unfolding words_before
words_none = refl

-- a routine has at most five words
pub words_within : (n : ℕ) → words_before n ≤ 5 * n
words_within zero = omega (arith, words_none)
words_within (suc n) =
    let same : suc n ≡ n + 1 = omega arith in
    omega (arith, ap words_before same, words_more n, words_within n)

pub map_more : {X : Type 0} (f : ℕ → X) (n : ℕ) → map f (range_with_len 0 (n + 1)) ≡ map f (range_with_len 0 n) ++ f n ∷ []
map_more f n = ap (map f) (from_zero n) ∙ map-append f (range_with_len 0 n) (n ∷ [])
