-- The misses of a cache that drops the least recently used line, by the accesses alone. A list of accesses has the latest
-- first, and the set of a line is its number modulo the number of sets.
use Rattle.std.specs.Prelude.{ℕ, ◌%◌, Bool, not, ◌||◌, ◌==◌, nat_le, if◌then◌else◌, List, [], ◌∷◌, length, filter}
use Rattle.std.specs.List.{list_any}
use Rattle.cache_lines.specs.Shapes.{Dimensions}

-- whether the line was accessed
abbrev pub was_accessed : ℕ → List ℕ → Bool
was_accessed line accesses = list_any (λ m. m == line) accesses

-- the accesses since the last one of the line
abbrev pub since : ℕ → List ℕ → List ℕ
since line [] = []
since line (m ∷ accesses) = if m == line then [] else m ∷ since line accesses

-- those of lines of one set
abbrev pub of_set : ℕ → ℕ → List ℕ → List ℕ
of_set sets set accesses = filter (λ m. m % sets == set) accesses

-- the different lines that were accessed, the latest first
abbrev pub different : List ℕ → List ℕ
different [] = []
different (m ∷ accesses) = m ∷ filter (λ x. not (x == m)) (different accesses)

-- The line was not accessed before, or since its last access at least as many different other lines of its set were as the
-- set has ways.
abbrev pub misses : Dimensions → List ℕ → ℕ → Bool
misses shape accesses line =
    let others = different (of_set shape.sets (line % shape.sets) (since line accesses)) in
    not (was_accessed line accesses) || nat_le shape.ways (length others)
