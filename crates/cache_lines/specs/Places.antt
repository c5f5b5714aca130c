-- The cache as the program keeps it.
use Rattle.std.specs.Prelude.{◌≡◌, ◌*◌, ◌≤◌, All, Some, length}
use Rattle.cache_lines.specs.Shapes.{shape_of}
use Rattle.cache_lines.specs.declared.cache.Cache.TheInside.{Inside}

-- The shape is one that is taken, each set has as many places as ways, and no more are used.
pub record IsCache (c : Inside) : Type 0 where
  pub shape : shape_of c.shape.sets c.shape.ways c.shape.line ≡ Some c.shape
  pub places : length c.places.items ≡ c.shape.ways * c.shape.sets
  pub all : length c.used.items ≡ c.shape.sets
  pub few : All (λ n. n ≤ c.shape.ways) c.used.items
