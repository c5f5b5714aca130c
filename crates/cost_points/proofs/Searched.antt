-- What a binary search by a key finds among rising keys.
use Rattle.std.proofs.Common.{◌≡◌, ℕ, ◌<◌, ◌≤◌, List, [], ◌∷◌, length, get_or, map, Result, Ok, Err, sym, ap, ◌∙◌, arith}
use Rattle.std.specs.List.Sorted.{IsSearchInRange, IsBinarySearchResult, IsNonDecreasingBy}
use Rattle.std.specs.Ordering.{nat_cmp, ordering_index}
use Rattle.std.proofs.lemmas.Cmp.{ranked}
use Rattle.std.proofs.lemmas.List.{get_or-map, length-map}
use Rattle.std.proofs.lemmas.List.Sorted.{IsNonDecreasingBy-from_default}
use Rattle.std.proofs.lemmas.Bool.Decides.{nat_tests}
use Rattle.cost_points.specs.Keys.{IsRising}
use Rattle.std.proofs.Common.{inl, inr, Some}
use Rattle.std.specs.List.{slice_get}
use Rattle.std.proofs.lemmas.Option.{get_or_from_slice_get, slice_get_within}
use Rattle.cost_points.proofs.Rising.{order}
use Rattle.std.proofs.lemmas.Bool.{cases_lt}
use Rattle.cost_points.specs.Search.{FindsKey, IsAt, IsInsertionPoint}

module _ {X : Type 0} (label : X → ℕ) (d : X) (xs : List X) (up : IsRising (map label xs)) (x : ℕ) where
  labelled : (i : ℕ) → i < length xs → get_or (map label xs) i 0 ≡ label (get_or xs i d)
  labelled i inside = get_or-map label xs i d 0 inside

  long : length (map label xs) ≡ length xs
  long = length-map xs label

  labels_rise : (i j : ℕ) → i < j → j < length xs → label (get_or xs i d) < label (get_or xs j d)
  labels_rise i j lt inside =
      let low : get_or (map label xs) i 0 < get_or (map label xs) j 0 = up i j lt (omega (arith, long)) in
      omega (arith, low, labelled i (omega arith), labelled j inside)

  comparisons_rise : IsNonDecreasingBy (λ y. ordering_index (nat_cmp (label y) x)) xs
  comparisons_rise = IsNonDecreasingBy-from_default (λ y. ordering_index (nat_cmp (label y) x)) xs d (λ i j le inside.
      let keys_rise : label (get_or xs i d) ≤ label (get_or xs j d) = grind (arith, labels_rise i j, λ (same : i ≡ j). ap (λ k. label (get_or xs k d)) same) in
      grind (arith, nat_tests))

  pub searched : (r : Result ℕ ℕ) → IsSearchInRange r (length xs) → IsBinarySearchResult (λ y. nat_cmp (label y) x) xs r → FindsKey (map label xs) x r
  searched (Ok at) inside equal = record { in_range = omega (arith, long, inside); here = labelled at inside ∙ ranked _ x _ (sym (equal d)) }
  searched (Err at) inside parted = record {
    in_range = omega (arith, long, inside);
    smaller = λ j lt.
        let within : j < length xs = omega (arith, inside) in
        let below : label (get_or xs j d) < x = ranked _ x _ (sym ((parted comparisons_rise).0 j d (omega arith) lt)) in
        omega (arith, below, labelled j within);
    greater = λ j le lt.
        let within : j < length xs = omega (arith, long) in
        let above : x < label (get_or xs j d) = ranked _ x _ (sym ((parted comparisons_rise).1 j d le within)) in
        omega (arith, above, labelled j within);
  }

pub searched_in : {X : Type 0} (label : X → ℕ) (xs : List X) → IsRising (map label xs) → (x : ℕ) (r : Result ℕ ℕ) → IsSearchInRange r (length xs) → IsBinarySearchResult (λ y. nat_cmp (label y) x) xs r → FindsKey (map label xs) x r
searched_in label [] up x (Ok at) inside parted = absurd (omega (arith, inside))
searched_in label [] up x (Err at) inside parted = record { in_range = inside; smaller = λ j lt. absurd (omega (arith, inside, lt)); greater = λ j le lt. absurd (omega (arith, lt)) }
searched_in label (y ∷ ys) up x r inside parted = searched label y (y ∷ ys) up x r inside parted

-- A key that stands at a place would go at none.
pub apart : (keys : List ℕ) (key i j : ℕ) → IsAt keys key i → IsInsertionPoint keys key j → ⊥
apart keys key i j at goes = elim (cases_lt i j) [
  | inl before ↦
      let low : get_or keys i 0 < key = goes.smaller i before in
      let here : get_or keys i 0 ≡ key = at.here in
      omega arith
  | inr behind ↦
      let high : key < get_or keys i 0 = goes.greater i behind at.in_range in
      let here : get_or keys i 0 ≡ key = at.here in
      omega arith
]

-- A key stands at one place among rising ones.
same_place : (keys : List ℕ) (key i j : ℕ) → IsRising keys → IsAt keys key i → IsAt keys key j → i ≡ j
same_place keys key i j up at also = elim (order i j) [
  | inl before ↦
      let low : get_or keys i 0 < get_or keys j 0 = up i j before also.in_range in
      let here : get_or keys i 0 ≡ key = at.here in
      let there : get_or keys j 0 ≡ key = also.here in
      absurd (omega arith)
  | inr (inl same) ↦ same
  | inr (inr behind) ↦
      let low : get_or keys j 0 < get_or keys i 0 = up j i behind at.in_range in
      let here : get_or keys i 0 ≡ key = at.here in
      let there : get_or keys j 0 ≡ key = also.here in
      absurd (omega arith)
]

pub at_key : {B : Type 0} (key : B → ℕ) (items : List B) (x i : ℕ) (b : B) → slice_get items i ≡ Some b → key b ≡ x → IsAt (map key items) x i
at_key key items x i b is same =
    let inside : i < length items = slice_get_within items i b is in
    record { in_range = omega (arith, inside, length-map items key); here = get_or-map key items i b 0 inside ∙ ap key (get_or_from_slice_get items i b b is) ∙ same }

-- The item that is found by its key is the one of that key.
pub the_item : {B : Type 0} (key : B → ℕ) (items : List B) (x i j : ℕ) (b found : B) → IsRising (map key items) → slice_get items i ≡ Some b → key b ≡ x → IsAt (map key items) x j → found ≡ get_or items j found → found ≡ b
the_item key items x i j b found up is same at read =
    let place : j ≡ i = same_place (map key items) x j i up at (at_key key items x i b is same) in
    read ∙ ap (λ k. get_or items k found) place ∙ get_or_from_slice_get items i b found is
