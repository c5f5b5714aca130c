-- The names of routines beside their entries, as they are searched.
use Rattle.std.specs.Prelude.{◌≡◌, ℕ, ◌<◌, ◌==◌, List, length, slice_get, Option, None, MatchOption}
use Rattle.std.specs.List.{find}

-- the first of them that stands beside this entry
abbrev pub found_beside : List (ℕ × List ℕ) → ℕ → Option (ℕ × List ℕ)
found_beside names entry = find (λ (n : ℕ × List ℕ). n.0 == entry) names

-- it is at this place, or there is none
abbrev pub IsNamePlace : List (ℕ × List ℕ) → ℕ → Option ℕ → Type 0
IsNamePlace names entry result =
    MatchOption result (found_beside names entry ≡ None) (λ place. (place < length names) × (found_beside names entry ≡ slice_get names place))
