-- One more point in a table: what its routine's point of that size becomes.
use Rattle.std.specs.Prelude.{◌≡◌, ℕ, ◌+◌, ◌≤◌, List, [], ◌∷◌, length, min, max, Option, Some, None}
use Rattle.std.specs.List.{All}
use Rattle.trace_model.specs.declared.slow_profile.Done.{Done}
use Rattle.cost_points.specs.declared.point.Point.{Point}
use Rattle.cost_points.specs.declared.point.Split.{Split}
use Rattle.cost_points.specs.Keys.{put}
use Rattle.cost_points.specs.Points.{Routine, point_of}

-- the parts of the sizes of two sets of activations together
abbrev pub split_sum : Split → Split → Split
split_sum s t = record {
  plain = s.plain + t.plain;
  thread = s.thread + t.thread;
  kernel = s.kernel + t.kernel;
  bare = s.bare + t.bare;
}

-- where both are told
abbrev pub split_both : Option Split → Option Split → Option Split
split_both (Some s) (Some t) = Some (split_sum s t)
split_both _ _ = None

-- a point with the activations of another of its size: calls, sums and parts add up, the least is the lesser of the two, and
-- the most the greater
abbrev pub merged : Point → Point → Point
merged p q = record {
  size = p.size;
  calls = p.calls + q.calls;
  least = min p.least q.least;
  most = max p.most q.most;
  sum = p.sum + q.sum;
  split = split_both p.split q.split;
}

-- points by rising size, with a point more: the one of its size takes it in, and where there is none it is a new one
abbrev pub put_point : Point → List Point → List Point
put_point p points = put (λ q. q.size) p.size (λ q. merged q p) p points

-- a routine with a point more
abbrev pub point_added : Point → Routine → Routine
point_added p r = record { entry = r.entry; points = put_point p r.points }

-- the routines with a point more of the routine at the entry
abbrev pub with_point : ℕ → Point → List Routine → List Routine
with_point entry p routines = put (λ r. r.entry) entry (point_added p) (record { entry = entry; points = p ∷ [] }) routines

-- The point is that of these activations, which all are of the routine at the entry and of its size.
pub record ArePointOf (entry : ℕ) (p : Point) (more : List Done) : Type 0 where
  pub some : 1 ≤ length more
  pub entries : All (λ d. d.entry ≡ entry) more
  pub sizes : All (λ d. d.size ≡ p.size) more
  pub point : p ≡ point_of p.size more
