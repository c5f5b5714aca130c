-- The points of a context, of which that of the last activation may stand apart.
use Rattle.std.specs.Prelude.{List, [], Option, Some, None}
use Rattle.cost_points.specs.declared.point.Point.{Point}
use Rattle.cost_points.specs.Keys.{put}
use Rattle.cost_points.specs.Merging.{merged}
use Rattle.cost_points.specs.Search.{HasRoom}
use Rattle.context_tree.specs.Private.Ways.{ArePoints, PointList}

-- points that may be none
abbrev pub known : Option (List Point) → List Point
known None = []
known (Some ps) = ps

-- points with one more
abbrev pub with_point : Point → List Point → List Point
with_point p ps = put (λ q. q.size) p.size (λ q. merged q p) p ps

-- The points with the one that stands apart, if there is one; where there is none, one can be added without allocating.
abbrev pub with_last : Option Point → List Point → PointList
with_last None ps = record { points = ps; room = 1 }
with_last (Some p) ps = record { points = with_point p ps; room = 0 }

-- The point may join the points.
pub record MayJoin (ps : List Point) (p : Point) : Type 0 where
  pub points : ArePoints ps
  pub fits : HasRoom p
