-- The lines that the sets hold, in each the most recent first.
use Rattle.std.specs.Prelude.{ℕ, List, [], ◌∷◌, take, drop}

-- the lines of each set: the used ones of its places
abbrev pub lines_of : ℕ → List ℕ → List ℕ → List (List ℕ)
lines_of ways [] places = []
lines_of ways (n ∷ used) places = take n places ∷ lines_of ways used (drop ways places)
