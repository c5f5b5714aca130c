-- How many starts of frames are compared, the outermost frame's first.
use Rattle.std.specs.Prelude.{ℕ, ◌+◌, ◌-◌, Bool, if◌then◌else◌, nat_lt, List, length, slice_index}

-- the innermost frame started after the stamp
abbrev pub is_old : List ℕ → ℕ → Bool
is_old starts stamp = nat_lt stamp (slice_index starts (length starts - 1))

-- At most this many where a read of a word with the stamp is counted: two, and one for each of the `digits` where the word is old.
abbrev pub most_compared : ℕ → List ℕ → ℕ → ℕ
most_compared digits starts stamp = 2 + (if is_old starts stamp then digits else 0)
