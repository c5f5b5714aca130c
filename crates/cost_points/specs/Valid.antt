-- What holds of the points of any list of activations.
use Rattle.std.specs.Prelude.{◌≡◌, ℕ, ◌+◌, ◌*◌, ◌≤◌, true, List, length, map, is_some, IfSome}
use Rattle.std.specs.List.{All}
use Rattle.cost_points.specs.declared.point.Point.{Point}
use Rattle.cost_points.specs.declared.point.Split.{Split}
use Rattle.cost_points.specs.Keys.{IsRising}
use Rattle.cost_points.specs.Points.{Routine}

-- The parts add up to the sizes, and the plain read memory size lies between the plain part and all of them.
pub record IsSplit (sizes : ℕ) (s : Split) : Type 0 where
  pub parts : s.plain + s.thread + s.kernel ≡ sizes
  pub low : s.plain ≤ s.bare
  pub high : s.bare ≤ sizes

-- A point has at least one activation, the sum is one of as many costs from the least up to the greatest, and the parts, if
-- they are told, are those of as many sizes.
pub record IsPoint (p : Point) : Type 0 where
  pub some : 1 ≤ p.calls
  pub ordered : p.least ≤ p.most
  pub low : p.calls * p.least ≤ p.sum
  pub high : p.sum ≤ p.calls * p.most
  pub split : IfSome p.split (IsSplit (p.size * p.calls))

-- A routine has at least one point, its sizes rise, and the parts of each are told.
pub record IsRoutine (r : Routine) : Type 0 where
  pub some : 1 ≤ length r.points
  pub sizes : IsRising (map (λ p. p.size) r.points)
  pub each : All IsPoint r.points
  pub split : All (λ p. is_some p.split ≡ true) r.points

-- The entries of the routines rise.
pub record IsProfile (routines : List Routine) : Type 0 where
  pub entries : IsRising (map (λ r. r.entry) routines)
  pub each : All IsRoutine routines
