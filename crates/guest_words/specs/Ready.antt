-- Lists of threads by rising number, each with whether it can run.
use Rattle.std.specs.Prelude.{ℕ, ◌<◌, Bool, List, [], ◌∷◌}

-- each number is below the next
abbrev pub IsRising : List (ℕ × Bool) → Type 0
IsRising [] = Unit {0}
IsRising (p ∷ []) = Unit {0}
IsRising (p ∷ q ∷ rest) = (p.0 < q.0) × IsRising (q ∷ rest)

-- the number is above the last of the list
abbrev pub IsAboveLast : ℕ → List (ℕ × Bool) → Type 0
IsAboveLast n [] = Unit {0}
IsAboveLast n (p ∷ []) = p.0 < n
IsAboveLast n (p ∷ q ∷ rest) = IsAboveLast n (q ∷ rest)
