-- The line accesses of a run, by its past, the list of its events with the newest first.
use Rattle.std.specs.Prelude.{ℕ, ◌*◌, ◌/◌, Bool, List, [], ◌∷◌, ◌++◌, map, reverse}
use Rattle.std.specs.List.{range_with_len}
use Rattle.trace_model.specs.declared.event_kinds.Event.{Event}
use Rattle.trace_model.specs.declared.event_kinds.Event.TheVariants.{Read, Write}
use Rattle.cost_points.specs.Keys.{rising}
use Rattle.cache_lines.specs.Misses.{misses}
use Rattle.cache_lines.specs.Shapes.{Dimensions}

-- the line that a word lies in: a word has four bytes, and a line whole words
abbrev pub line_of : Dimensions → ℕ → ℕ
line_of shape word = 4 * word / shape.line

-- the lines that the words lie in, each once, rising
abbrev pub lines_over : Dimensions → (first count : ℕ) → List ℕ
lines_over shape first count = rising (map (line_of shape) (range_with_len first count))

-- the lines that the event accesses, in their order; a fill by the kernel accesses none
abbrev pub lines_accessed : Dimensions → Event → List ℕ
lines_accessed shape (Read _ first count) = lines_over shape first count
lines_accessed shape (Write _ first count) = lines_over shape first count
lines_accessed shape _ = []

-- all line accesses, the latest first
abbrev pub line_accesses : Dimensions → List Event → List ℕ
line_accesses shape [] = []
line_accesses shape (e ∷ past) = reverse (lines_accessed shape e) ++ line_accesses shape past

-- for each of these lines, which are accessed in this order after the earlier ones, whether it misses
abbrev pub missed : Dimensions → (earlier lines : List ℕ) → List Bool
missed shape earlier [] = []
missed shape earlier (line ∷ lines) = misses shape earlier line ∷ missed shape (line ∷ earlier) lines
