-- What an access makes of the lines of a set.
use Rattle.std.specs.Prelude.{ℕ, ◌==◌, if◌then◌else◌, List, [], ◌∷◌, take}

-- the lines without this one
abbrev pub without : ℕ → List ℕ → List ℕ
without line [] = []
without line (m ∷ lines) = if m == line then lines else m ∷ without line lines

-- what an access makes of the lines of a set: the line comes first, and the last is dropped where it is one too many
abbrev pub touched : ℕ → ℕ → List ℕ → List ℕ
touched ways line lines = take ways (line ∷ without line lines)
