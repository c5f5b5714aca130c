-- A list of rising numbers, searched and lengthened.
use Rattle.std.proofs.Common.{◌≡◌, ℕ, ◌+◌, ◌-◌, ◌<◌, ◌≤◌, List, [], ◌∷◌, ◌++◌, length, map, get_or, arith, ap, sym, ◌∙◌, slice_index, subst, Option, Some, None, inl, inr}
use Rattle.std.proofs.lemmas.Bool.{cases_lt}
use Rattle.std.proofs.lemmas.List.{get_or-map, get_or_append_left, get_or_push, length-append}
use Rattle.std.specs.Option.{SomeIff}
use Rattle.shadow_stack.specs.Frames.{IsRising, IsLastAtMost}

-- all up to a place that is at most n are at most n
pub rising_at_most : (xs : List ℕ) (m n : ℕ) → IsRising xs → m < length xs → slice_index xs m ≤ n → (i : ℕ) → i < m + 1 → slice_index xs i ≤ n
rising_at_most xs m n r lt h i low = elim (cases_lt i m) [
  | inl under ↦ let step = r i m under lt in omega arith
  | inr over ↦ let same : i ≡ m = omega arith in rw same h
]

-- all from a place above n are above n
pub rising_above : (xs : List ℕ) (m n : ℕ) → IsRising xs → n < slice_index xs m → (i : ℕ) → m ≤ i → i < length xs → n < slice_index xs i
rising_above xs m n r h i low lt = elim (cases_lt m i) [
  | inl under ↦ let step = r m i under lt in omega arith
  | inr over ↦ let same : i ≡ m = omega arith in rw same h
]

-- what is read of a list, through a map
pub read_mapped : {X : Type 0} (f : X → ℕ) (xs : List X) (i : ℕ) (x : X) → i < length xs → x ≡ get_or xs i x → slice_index (map f xs) i ≡ f x
read_mapped f xs i x lt is = get_or-map f xs i x 0 lt ∙ ap f (sym is)

-- one more above all of them
pub rising_push : (xs : List ℕ) (n : ℕ) → IsRising xs → ((i : ℕ) → i < length xs → slice_index xs i < n) → IsRising (xs ++ n ∷ [])
rising_push xs n r above i j lt within =
    let size : length (xs ++ n ∷ []) ≡ length xs + 1 = length-append xs (n ∷ []) in
    let low : i < length xs = omega arith in
    let left : slice_index (xs ++ n ∷ []) i ≡ slice_index xs i = get_or_append_left xs (n ∷ []) 0 i low in
    elim (cases_lt j (length xs)) [
      | inl under ↦ rw (left, get_or_append_left xs (n ∷ []) 0 j under) (r i j lt under)
      | inr over ↦
          let same : length xs ≡ j = omega arith in
          let right : slice_index (xs ++ n ∷ []) j ≡ n = get_or_push xs n 0 j same in
          rw (left, right) (above i low)
    ]

-- the last of those below `above` is the last at most n
pub last_below : (xs : List ℕ) (n above : ℕ) → above ≤ length xs → ((i : ℕ) → i < above → slice_index xs i ≤ n)
    → ((i : ℕ) → above ≤ i → i < length xs → n < slice_index xs i) → 0 < above → IsLastAtMost xs n (Some (above - 1))
last_below xs n above within low high some =
    (omega arith, low (above - 1) (omega arith), λ i lt le. high i (omega arith) le)

-- a count of those at most n, less one, is the place of the last
pub counted_last : (xs : List ℕ) (n above : ℕ) (place : Option ℕ) → SomeIff place (1 ≤ above) (above - 1) → above ≤ length xs →
    ((i : ℕ) → i < above → slice_index xs i ≤ n) → ((i : ℕ) → above ≤ i → i < length xs → n < slice_index xs i) → IsLastAtMost xs n place
counted_last xs n above None is within low high = λ i lt. high i (omega (arith, none above is)) lt
  where
    none : (above : ℕ) → ¬ (1 ≤ above) → above ≤ 0
    none above h = elim (cases_lt 0 above) [ inl some ↦ absurd (h (omega (arith, some))) | inr over ↦ over ]
counted_last xs n above (Some k) is within low high =
    let some : 0 < above = omega (arith, is.0) in
    subst (λ p. IsLastAtMost xs n (Some p)) (sym is.1) (last_below xs n above within low high some)
