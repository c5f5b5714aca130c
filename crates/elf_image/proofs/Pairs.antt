-- Whether two elements of a list are related: by places, and in any order.
use Rattle.std.proofs.Common.{◌≡◌, ◌≢◌, ℕ, zero, suc, ◌<◌, Bool, true, false, ◌||◌, List, [], ◌∷◌, length, get_or, map, refl, sym, ap, ◌∙◌, inl, inr, arith, eqb, if◌then◌else◌}
use Rattle.std.specs.List.{All, AllPairs, list_any, swap}
use Rattle.std.specs.List.Sorted.{IsPermutation}
use Rattle.std.proofs.lemmas.Bool.{cases_Bool, cases_eq, cases_order, eq-eqb, ne_eqb, or_from, or_left, or_right}
use Rattle.std.proofs.lemmas.Bool.Decides.{nat_tests}
use Rattle.std.proofs.lemmas.List.Edits.{length-swap, swapped_from_swap}
use Rattle.std.proofs.lemmas.List.Folds.{list_any_at, list_any_none}
use Rattle.std.proofs.lemmas.List.Sorted.{IsPermutation-keeps, IsPermutation-sym}
use Rattle.elf_image.specs.Tests.{any_two}

-- where the element at a place stood before the elements at a and b were exchanged
abbrev came_from : ℕ → ℕ → ℕ → ℕ
came_from a b m = if eqb m a then b else (if eqb m b then a else m)

came_within : (a b m n : ℕ) → a < n → b < n → m < n → came_from a b m < n
came_within a b m n in_a in_b inside = grind (arith, nat_tests)

came_apart : (a b i j : ℕ) → i ≢ j → came_from a b i ≢ came_from a b j
came_apart a b i j other = λ same. other (grind (arith, nat_tests))

came_is : {X : Type 0} (xs : List X) (a b : ℕ) → a < length xs → b < length xs → (m : ℕ) (d : X) → get_or (swap xs a b) m d ≡ get_or xs (came_from a b m) d
came_is xs a b in_a in_b m d =
    let moved = swapped_from_swap xs (swap xs a b) a b d in_a in_b refl in
    elim (cases_eq m a) as (λ _. get_or (swap xs a b) m d ≡ get_or xs (came_from a b m) d) [
      | inl at_a ↦ rw (at_a, eq-eqb a a refl) moved.0
      | inr not_a ↦ elim (cases_eq m b) as (λ _. get_or (swap xs a b) m d ≡ get_or xs (came_from a b m) d) [
        | inl at_b ↦ rw (ne_eqb m a not_a, eq-eqb m b at_b) (rw at_b moved.1)
        | inr not_b ↦ rw (ne_eqb m a not_a, ne_eqb m b not_b) (moved.2 m not_a not_b)
      ]
    ]

-- a test of what a map gives
pub list_any-map : {X Y : Type 0} (p : Y → Bool) (f : X → Y) (xs : List X) → list_any p (map f xs) ≡ list_any (λ x. p (f x)) xs
list_any-map p f [] = refl
list_any-map p f (x ∷ xs) = ap (λ b. p (f x) || b) (list_any-map p f xs)

-- where no element passes, each fails
pub each_fails : {X : Type 0} (p : X → Bool) (xs : List X) → list_any p xs ≡ false → All (λ x. p x ≡ false) xs
each_fails p xs none k d inside = elim (cases_Bool (p (get_or xs k d))) as (λ _. p (get_or xs k d) ≡ false) [
  | inl passes ↦ cc (none, list_any_at p xs k d inside passes)
  | inr fails ↦ fails
]

module _ {X : Type 0} (r : X → X → Bool) where
  -- a related pair
  pub any_two-at : (xs : List X) (i j : ℕ) (d : X) → i < j → j < length xs → r (get_or xs i d) (get_or xs j d) ≡ true → any_two r xs ≡ true
  any_two-at [] i j d lt inside h = absurd (omega arith)
  any_two-at (x ∷ xs) i zero d lt inside h = absurd (omega arith)
  any_two-at (x ∷ xs) zero (suc j) d lt inside h = or_left _ _ (list_any_at (r x) xs j d (omega arith) h)
  any_two-at (x ∷ xs) (suc i) (suc j) d lt inside h = or_right _ _ (any_two-at xs i j d (omega arith) (omega arith) h)

  -- no two are related
  pub any_two-none : (xs : List X) → AllPairs (λ x y. r x y ≡ false) xs → any_two r xs ≡ false
  any_two-none [] h = refl
  any_two-none (x ∷ xs) h = or_from _ _ (list_any_none (r x) xs (λ k d inside. h 0 (suc k) d (omega arith) (omega arith)))
      (any_two-none xs (λ i j d lt inside. h (suc i) (suc j) d (omega arith) (omega arith)))

  pub none_is_related : (xs : List X) → any_two r xs ≡ false → AllPairs (λ x y. r x y ≡ false) xs
  none_is_related xs none i j d lt inside = elim (cases_Bool (r (get_or xs i d) (get_or xs j d))) as (λ _. r (get_or xs i d) (get_or xs j d) ≡ false) [
    | inl related ↦ cc (none, any_two-at xs i j d lt inside related)
    | inr apart ↦ apart
  ]

  module _ (even : (x y : X) → r x y ≡ r y x) where
    -- no element is related to one at another place
    abbrev AreApart : List X → Type 0
    AreApart xs = (i j : ℕ) (d : X) → i < length xs → j < length xs → i ≢ j → r (get_or xs i d) (get_or xs j d) ≡ false

    apart_from_none : (xs : List X) → any_two r xs ≡ false → AreApart xs
    apart_from_none xs none i j d low high other = elim (cases_order i j) as (λ _. r (get_or xs i d) (get_or xs j d) ≡ false) [
      | inl same ↦ absurd (other same)
      | inr (inl before) ↦ none_is_related xs none i j d before high
      | inr (inr behind) ↦ even _ _ ∙ none_is_related xs none j i d behind low
    ]

    none_from_apart : (xs : List X) → AreApart xs → any_two r xs ≡ false
    none_from_apart xs apart = any_two-none xs (λ i j d lt inside. apart i j d (omega arith) inside (λ e. omega arith))

    -- exchanging two elements keeps them apart
    apart-swap : (xs : List X) (a b : ℕ) → a < length xs → b < length xs → AreApart xs → AreApart (swap xs a b)
    apart-swap xs a b in_a in_b apart i j d low high other =
        let long : length (swap xs a b) ≡ length xs = length-swap xs a b in
        let moved : (m : ℕ) → get_or (swap xs a b) m d ≡ get_or xs (came_from a b m) d = λ m. came_is xs a b in_a in_b m d in
        let kept : r (get_or xs (came_from a b i) d) (get_or xs (came_from a b j) d) ≡ false =
        apart (came_from a b i) (came_from a b j) d (came_within a b i _ in_a in_b (omega arith)) (came_within a b j _ in_a in_b (omega arith))
        (came_apart a b i j other) in
        rw (moved i, moved j) kept

    -- a list and its permutation
    pub any_two-permutation : (xs ys : List X) → IsPermutation xs ys → any_two r ys ≡ any_two r xs
    any_two-permutation xs ys moves = elim (cases_Bool (any_two r xs)) as (λ _. any_two r ys ≡ any_two r xs) [
      | inl some ↦ elim (cases_Bool (any_two r ys)) as (λ _. any_two r ys ≡ any_two r xs) [
        | inl also ↦ also ∙ sym some
        | inr none ↦ none ∙ sym (none_follows ys xs (IsPermutation-sym xs ys moves) none)
      ]
      | inr none ↦ none_follows xs ys moves none ∙ sym none
    ]
      where
        none_follows : (us vs : List X) → IsPermutation us vs → any_two r us ≡ false → any_two r vs ≡ false
        none_follows us vs moves none = none_from_apart vs (IsPermutation-keeps us AreApart (apart_from_none us none) apart-swap vs moves)
