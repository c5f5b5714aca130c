-- A cache as contracts see it.
use Rattle.std.specs.Prelude.{ℕ, List}
use Rattle.cache_lines.specs.Shapes.{Dimensions}

-- Its shape, and for each set its lines, the most recent first.
pub record Held : Type 0 where
  pub shape : Dimensions
  pub sets : List (List ℕ)
