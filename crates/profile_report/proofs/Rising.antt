-- Numbers that rise, one by one.
use Rattle.std.proofs.Common.{◌≡◌, ℕ, zero, suc, ◌+◌, ◌-◌, ◌<◌, ◌≤◌, true, List, [], ◌∷◌, ◌++◌, length, map, get_or, Option, Some, None, inl, inr, refl, sym, ap, subst, arith}
use Rattle.std.specs.Prelude.{slice_get}
use Rattle.std.specs.Option.{option_map}
use Rattle.std.proofs.lemmas.Bool.{cases_lt, lt-ltb, ltb-true}
use Rattle.std.proofs.lemmas.List.{get_or_append_left, get_or_push, length_push, length-map}
use Rattle.cost_points.specs.Keys.{IsRising}
use Rattle.cost_points.specs.declared.point.Point.{Point}
use Rattle.profile_report.specs.Grammar.{is_above}

-- each number is above the one before, and the first above the last of what came before
abbrev pub Chain : Option ℕ → List ℕ → Type 0
Chain last [] = Unit {0}
Chain last (x ∷ xs) = (is_above last x ≡ true) × Chain (Some x) xs

later : (x : ℕ) (xs : List ℕ) → IsRising (x ∷ xs) → Chain (Some x) xs
later x [] h = tt
later x (y ∷ ys) h = (lt-ltb x y (h 0 1 (omega arith) (omega arith)), later y ys (λ i j a b. h (suc i) (suc j) (omega arith) (omega arith)))

-- rising numbers are a chain
pub chain : (xs : List ℕ) → IsRising xs → Chain None xs
chain [] h = tt
chain (x ∷ xs) h = (refl, later x xs h)

-- one more number above the last
pub rising_more : (xs : List ℕ) (y : ℕ) → IsRising xs → (0 < length xs → get_or xs (length xs - 1) 0 < y) → IsRising (xs ++ y ∷ [])
rising_more xs y h above i j below inside =
    let long : length (xs ++ y ∷ []) ≡ length xs + 1 = length_push xs y in
    let left : get_or (xs ++ y ∷ []) i 0 ≡ get_or xs i 0 = get_or_append_left xs (y ∷ []) 0 i (omega arith) in
    elim (cases_lt j (length xs)) [
      | inl within ↦
          let right : get_or (xs ++ y ∷ []) j 0 ≡ get_or xs j 0 = get_or_append_left xs (y ∷ []) 0 j within in
          omega (arith, h i j below within)
      | inr end ↦
          let right : get_or (xs ++ y ∷ []) j 0 ≡ y = get_or_push xs y 0 j (omega arith) in
          let top : get_or xs (length xs - 1) 0 < y = above (omega arith) in
          elim (cases_lt i (length xs - 1)) [
            | inl inner ↦ omega (arith, h i (length xs - 1) inner (omega arith))
            | inr last ↦
                let same : i ≡ length xs - 1 = omega arith in
                let here : get_or xs i 0 ≡ get_or xs (length xs - 1) 0 = ap (λ k. get_or xs k 0) same in
                omega arith
          ]
    ]

-- a size above one that stands in a list of points
above_at : (ps : List Point) (i y : ℕ) → i < length ps → is_above (option_map (λ p. p.size) (slice_get ps i)) y ≡ true → get_or (map (λ p. p.size) ps) i 0 < y
above_at [] i y inside h = absurd (omega arith)
above_at (p ∷ ps) zero y inside h = ltb-true p.size y h
above_at (p ∷ ps) (suc i) y inside h = above_at ps i y (omega arith) h

-- a size above the last of a list of points
pub above_last : (ps : List Point) (y : ℕ) → is_above (option_map (λ p. p.size) (slice_get ps (length ps - 1))) y ≡ true → 0 < length (map (λ (p : Point). p.size) ps) → get_or (map (λ (p : Point). p.size) ps) (length (map (λ (p : Point). p.size) ps) - 1) 0 < y
above_last ps y h some =
    let long : length (map (λ (p : Point). p.size) ps) ≡ length ps = length-map ps (λ (p : Point). p.size) in
    let last : length (map (λ (p : Point). p.size) ps) - 1 ≡ length ps - 1 = omega arith in
    subst (λ k. get_or (map (λ (p : Point). p.size) ps) k 0 < y) (sym last) (above_at ps (length ps - 1) y (omega arith) h)

-- the last of a list of points
pub last_pushed : (ps : List Point) (p : Point) (i : ℕ) → i ≡ length ps → slice_get (ps ++ p ∷ []) i ≡ Some p
last_pushed [] p i is = ap (slice_get (p ∷ [])) is
last_pushed (q ∷ ps) p zero is = absurd (omega arith)
last_pushed (q ∷ ps) p (suc i) is = last_pushed ps p i (omega arith)

-- rising numbers are at least as great as their places
pub rising_place : (xs : List ℕ) → IsRising xs → (i : ℕ) → i < length xs → i ≤ get_or xs i 0
rising_place xs h zero inside = omega arith
rising_place xs h (suc i) inside = omega (arith, rising_place xs h i (omega arith), h i (suc i) (omega arith) inside)
