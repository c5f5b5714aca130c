-- Threads by rising number: where one is found, and what is among them after a change.
use Rattle.std.proofs.Common.{inl, inr, ◌≡◌, ℕ, ◌+◌, ◌<◌, ◌≤◌, Bool, true, false, not, ◌&&◌, ◌||◌, List, ◌∷◌, length, get_or, Option, Some, None, Result, Ok, Err, refl, sym, ap, ◌∙◌, arith, All, AllPairs}
use Rattle.std.specs.Prelude.{nat_eq, is_some, MatchOption}
use Rattle.std.specs.List.{remove}
use Rattle.std.specs.Ordering.{nat_cmp}
use Rattle.std.specs.List.Sorted.{IsBinarySearchResult}
use Rattle.std.specs.Result.{MatchResult, result_ok}
use Rattle.std.proofs.lemmas.Bool.{cases_lt, eq-eqb}
use Rattle.std.proofs.lemmas.Bool.Decides.{nat_tests}
use Rattle.std.proofs.lemmas.List.{get_or_default}
use Rattle.std.proofs.lemmas.List.Edits.{length-remove, get_or-remove_below, get_or-remove_above}
use Rattle.std.proofs.lemmas.List.Elements.{All-from_get_or, All-tail}
use Rattle.std.proofs.lemmas.List.Folds.{list_any_none, list_any_at}
use Rattle.std.proofs.lemmas.List.Quantifiers.{all_pairs_remove}
use Rattle.std.proofs.lemmas.List.Sorted.{searched, IsPermutation-remove, IsPermutation-sym, list_any-IsPermutation, All-permutation}
use Rattle.trace_order.specs.Order.{is_among}

abbrev IsRising : List ℕ → Type 0
IsRising xs = AllPairs (λ t u. t < u) xs

not_less : (xs : List ℕ) → IsRising xs → (i j : ℕ) → i ≤ j → j < length xs → get_or xs i 0 ≤ get_or xs j 0
not_less xs rising i j le low =
    elim (cases_lt i j) [
      | inl lt ↦ let lower : get_or xs i 0 < get_or xs j 0 = rising i j 0 lt low in omega arith
      | inr ge ↦ let same : i ≡ j = omega arith in rw same (omega arith)
    ]

apart_low : (t u : ℕ) → u < t → nat_eq t u ≡ false
apart_low t u low = grind (arith, nat_tests, low)

apart_high : (t u : ℕ) → t < u → nat_eq t u ≡ false
apart_high t u low = grind (arith, nat_tests, low)

none_among : (xs : List ℕ) (t i : ℕ) → ((k : ℕ) → k < i → get_or xs k 0 < t) → ((k : ℕ) → i ≤ k → k < length xs → t < get_or xs k 0) → is_among xs t ≡ false
none_among xs t i below above = list_any_none (nat_eq t) xs (All-from_get_or (λ u. nat_eq t u ≡ false) xs 0 each)
  where
    each : (k : ℕ) → k < length xs → nat_eq t (get_or xs k 0) ≡ false
    each k low =
        elim (cases_lt k i) [
          | inl lt ↦ apart_low t (get_or xs k 0) (below k lt)
          | inr ge ↦ apart_high t (get_or xs k 0) (above k ge low)
        ]

among_at : (xs : List ℕ) (t i : ℕ) → i < length xs → get_or xs i 0 ≡ t → is_among xs t ≡ true
among_at xs t i low is = list_any_at (nat_eq t) xs i 0 low (ap (nat_eq t) is ∙ eq-eqb t t refl)

-- what a search finds
pub found : (xs : List ℕ) (t : ℕ) (r : Result ℕ ℕ) → IsRising xs → IsBinarySearchResult (λ u. nat_cmp u t) xs r →
    MatchOption (result_ok r) (is_among xs t ≡ false) (λ i. (i < length xs) × (get_or xs i 0 ≡ t))
found xs t r rising position = by r (searched xs t r position (not_less xs rising))
  where
    by : (r : Result ℕ ℕ) → MatchResult r (λ i. (i < length xs) × (get_or xs i 0 ≡ t))
        (λ i. (i ≤ length xs) × ((k : ℕ) → k < i → get_or xs k 0 < t) × ((k : ℕ) → i ≤ k → k < length xs → t < get_or xs k 0)) →
        MatchOption (result_ok r) (is_among xs t ≡ false) (λ i. (i < length xs) × (get_or xs i 0 ≡ t))
    by (Ok i) is = is
    by (Err i) is = none_among xs t i is.1 is.2

pub is_found : (xs : List ℕ) (t : ℕ) (o : Option ℕ) → MatchOption o (is_among xs t ≡ false) (λ i. (i < length xs) × (get_or xs i 0 ≡ t)) → is_some o ≡ is_among xs t
is_found xs t (Some i) is = sym (among_at xs t i is.0 is.1)
is_found xs t None is = sym is

-- ---- one less
pub among-remove : (xs : List ℕ) (t i : ℕ) → IsRising xs → i < length xs → get_or xs i 0 ≡ t → (u : ℕ) → is_among (remove xs i) u ≡ (not (nat_eq u t) && is_among xs u)
among-remove xs t i rising low is u = by (nat_eq u t) refl
  where
    gone : (k : ℕ) → k < length (remove xs i) → nat_eq t (get_or (remove xs i) k 0) ≡ false
    gone k within =
        elim (cases_lt k i) [
          | inl lt ↦ ap (nat_eq t) (get_or-remove_below xs i 0 k lt low)
              ∙ (let lower : get_or xs k 0 < get_or xs i 0 = rising k i 0 lt low in apart_low t (get_or xs k 0) (omega arith))
          | inr ge ↦ ap (nat_eq t) (get_or-remove_above xs i 0 k ge low)
              ∙ (let shorter = length-remove xs i low in
              let lower : get_or xs i 0 < get_or xs (k + 1) 0 = rising i (k + 1) 0 (omega arith) (omega (arith, shorter)) in
              apart_high t (get_or xs (k + 1) 0) (omega arith))
        ]

    by : (b : Bool) → nat_eq u t ≡ b → is_among (remove xs i) u ≡ (not b && is_among xs u)
    by true is' =
        let equal : u ≡ t = grind (arith, nat_tests, is') in
        ap (is_among (remove xs i)) equal ∙ list_any_none (nat_eq t) (remove xs i) (All-from_get_or (λ v. nat_eq t v ≡ false) (remove xs i) 0 gone)
    by false is' =
        let here : t ≡ get_or xs i t = sym (get_or_default xs i t 0 low ∙ is) in
        sym (ap (λ b. b || is_among (remove xs i) u) is')
        ∙ list_any-IsPermutation (nat_eq u) (t ∷ remove xs i) xs (IsPermutation-sym xs (t ∷ remove xs i) (IsPermutation-remove xs i t low here))

pub all-remove : (P : ℕ → Type 0) (xs : List ℕ) (t i : ℕ) → i < length xs → get_or xs i 0 ≡ t → All P xs → All P (remove xs i)
all-remove P xs t i low is all =
    let here : t ≡ get_or xs i t = sym (get_or_default xs i t 0 low ∙ is) in
    All-tail P t (remove xs i) (All-permutation P xs (t ∷ remove xs i) (IsPermutation-remove xs i t low here) all)

pub rising-remove : (xs : List ℕ) (i : ℕ) → i < length xs → IsRising xs → IsRising (remove xs i)
rising-remove xs i low rising = all_pairs_remove (λ t u. t < u) xs i low rising

-- nothing is taken out where it is not among them
pub among-same : (xs : List ℕ) (t : ℕ) → is_among xs t ≡ false → (u : ℕ) → is_among xs u ≡ (not (nat_eq u t) && is_among xs u)
among-same xs t none u = by (nat_eq u t) refl
  where
    by : (b : Bool) → nat_eq u t ≡ b → is_among xs u ≡ (not b && is_among xs u)
    by true is = let equal : u ≡ t = grind (arith, nat_tests, is) in ap (is_among xs) equal ∙ none
    by false is = refl
