-- What a binary search finds among symbols by rising value.
use Rattle.std.proofs.Common.{◌≡◌, ℕ, ◌<◌, ◌≤◌, false, List, length, get_or, Some, None, Result, Ok, Err, refl, inl, inr, sym, ap, ◌∙◌, arith, eqb}
use Rattle.std.specs.List.{AllPairs, find, slice_get}
use Rattle.std.specs.Option.{MatchOption}
use Rattle.std.specs.Result.{result_ok}
use Rattle.std.specs.List.Sorted.{IsSearchInRange, IsBinarySearchResult, IsNonDecreasingBy}
use Rattle.std.specs.Ordering.{nat_cmp, ordering_index}
use Rattle.std.proofs.lemmas.Bool.{cases_lt, eq-eqb, ne_eqb}
use Rattle.std.proofs.lemmas.Cmp.{ranked}
use Rattle.std.proofs.lemmas.List.Recursion.{found_at, found_nowhere}
use Rattle.std.proofs.lemmas.List.Sorted.{IsNonDecreasingBy-from_default}
use Rattle.std.proofs.lemmas.Option.{slice_get-get_or}
use Rattle.std.proofs.lemmas.Bool.Decides.{nat_tests}
use Rattle.elf_image.specs.declared.symbols.SymbolPlace.{SymbolPlace}
use Rattle.elf_image.proofs.Placed.{no_place}

module _ (xs : List SymbolPlace) (up : AllPairs (λ s t. s.value < t.value) xs) (x : ℕ) where
  keys_rise : (i j : ℕ) → i < j → j < length xs → (get_or xs i no_place).value < (get_or xs j no_place).value
  keys_rise i j lt inside = up i j no_place lt inside

  comparisons_rise : IsNonDecreasingBy (λ y. ordering_index (nat_cmp y.value x)) xs
  comparisons_rise = IsNonDecreasingBy-from_default (λ y. ordering_index (nat_cmp y.value x)) xs no_place (λ i j le inside.
      let rise : (get_or xs i no_place).value ≤ (get_or xs j no_place).value = grind (arith, keys_rise i j, λ (same : i ≡ j). ap (λ k. (get_or xs k no_place).value) same) in
      grind (arith, nat_tests))

  here : (at : ℕ) → at < length xs → (get_or xs at no_place).value ≡ x → find (λ n. eqb n.value x) xs ≡ Some (get_or xs at no_place)
  here at inside same = found_at (find (λ n. eqb n.value x)) (λ n. eqb n.value x) Some None refl (λ n rest. refl) xs at no_place inside
      (λ k lt. ne_eqb _ _ (λ e. omega (arith, keys_rise k at lt inside, e, same)))
      (eq-eqb _ _ same)

  pub searched : (r : Result ℕ ℕ) → IsSearchInRange r (length xs) → IsBinarySearchResult (λ y. nat_cmp y.value x) xs r
      → MatchOption (result_ok r) (find (λ n. eqb n.value x) xs ≡ None) (λ at. (at < length xs) × (find (λ n. eqb n.value x) xs ≡ slice_get xs at))
  searched (Ok at) inside equal = (inside, here at inside (ranked _ x _ (sym (equal no_place))) ∙ sym (slice_get-get_or xs at no_place inside))
  searched (Err at) inside parted = found_nowhere (find (λ n. eqb n.value x)) (λ n. eqb n.value x) Some None refl (λ n rest. refl) xs no_place (λ k within.
      elim (cases_lt k at) as (λ _. eqb (get_or xs k no_place).value x ≡ false) [
        | inl before ↦
            let below : (get_or xs k no_place).value < x = ranked _ x _ (sym ((parted comparisons_rise).0 k no_place (omega arith) before)) in
            ne_eqb _ _ (λ e. omega (arith, below, e))
        | inr past ↦
            let above : x < (get_or xs k no_place).value = ranked _ x _ (sym ((parted comparisons_rise).1 k no_place past within)) in
            ne_eqb _ _ (λ e. omega (arith, above, e))
      ])
