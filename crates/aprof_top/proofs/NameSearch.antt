-- What a binary search finds among names by rising entry.
use Rattle.std.proofs.Common.{◌≡◌, ℕ, ◌<◌, ◌≤◌, false, List, [], length, get_or, Some, None, Result, Ok, Err, refl, inl, inr, sym, ap, ◌∙◌, arith, eqb}
use Rattle.std.specs.List.{AllPairs, find, slice_get}
use Rattle.std.specs.Option.{MatchOption}
use Rattle.std.specs.Result.{result_ok}
use Rattle.std.specs.List.Sorted.{IsSearchInRange, IsBinarySearchResult, IsNonDecreasingBy}
use Rattle.std.specs.Ordering.{nat_cmp, ordering_index}
use Rattle.std.proofs.lemmas.Bool.{cases_lt, eq-eqb, ne_eqb}
use Rattle.std.proofs.lemmas.Cmp.{ranked}
use Rattle.std.proofs.lemmas.List.Recursion.{found_at, found_nowhere}
use Rattle.std.proofs.lemmas.List.Sorted.{IsNonDecreasingBy-from_default}
use Rattle.std.proofs.lemmas.Option.{slice_get-get_or}
use Rattle.std.proofs.lemmas.Bool.Decides.{nat_tests}

-- an entry and its name
abbrev Named : Type 0
Named = ℕ × List ℕ

abbrev no_name : Named
no_name = (0, [])

module _ (xs : List Named) (up : AllPairs (λ (s t : Named). s.0 < t.0) xs) (x : ℕ) where
  keys_rise : (i j : ℕ) → i < j → j < length xs → (get_or xs i no_name).0 < (get_or xs j no_name).0
  keys_rise i j lt inside = up i j no_name lt inside

  comparisons_rise : IsNonDecreasingBy (λ (y : Named). ordering_index (nat_cmp y.0 x)) xs
  comparisons_rise = IsNonDecreasingBy-from_default (λ (y : Named). ordering_index (nat_cmp y.0 x)) xs no_name (λ i j le inside.
      let rise : (get_or xs i no_name).0 ≤ (get_or xs j no_name).0 = grind (arith, keys_rise i j, λ (same : i ≡ j). ap (λ k. (get_or xs k no_name).0) same) in
      grind (arith, nat_tests))

  here : (at : ℕ) → at < length xs → (get_or xs at no_name).0 ≡ x → find (λ (n : Named). eqb n.0 x) xs ≡ Some (get_or xs at no_name)
  here at inside same = found_at (find (λ (n : Named). eqb n.0 x)) (λ (n : Named). eqb n.0 x) Some None refl (λ n rest. refl) xs at no_name inside
      (λ k lt. ne_eqb _ _ (λ e. omega (arith, keys_rise k at lt inside, e, same)))
      (eq-eqb _ _ same)

  pub searched : (r : Result ℕ ℕ) → IsSearchInRange r (length xs) → IsBinarySearchResult (λ (y : Named). nat_cmp y.0 x) xs r
      → MatchOption (result_ok r) (find (λ (n : Named). eqb n.0 x) xs ≡ None) (λ at. (at < length xs) × (find (λ (n : Named). eqb n.0 x) xs ≡ slice_get xs at))
  searched (Ok at) inside equal = (inside, here at inside (ranked _ x _ (sym (equal no_name))) ∙ sym (slice_get-get_or xs at no_name inside))
  searched (Err at) inside parted = found_nowhere (find (λ (n : Named). eqb n.0 x)) (λ (n : Named). eqb n.0 x) Some None refl (λ n rest. refl) xs no_name (λ k within.
      elim (cases_lt k at) as (λ _. eqb (get_or xs k no_name).0 x ≡ false) [
        | inl before ↦
            let below : (get_or xs k no_name).0 < x = ranked _ x _ (sym ((parted comparisons_rise).0 k no_name (omega arith) before)) in
            ne_eqb _ _ (λ e. omega (arith, below, e))
        | inr past ↦
            let above : x < (get_or xs k no_name).0 = ranked _ x _ (sym ((parted comparisons_rise).1 k no_name past within)) in
            ne_eqb _ _ (λ e. omega (arith, above, e))
      ])
