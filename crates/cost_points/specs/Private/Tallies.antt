-- What is kept of the activations of a size.
use Rattle.std.specs.Prelude.{ℕ, ◌+◌, ◌*◌, ◌<◌, ◌^◌, ◌==◌, ◌&&◌, Bool, Option, Some, None, if◌then◌else◌, IfSome}
use Rattle.trace_model.specs.declared.slow_profile.Done.{Done}
use Rattle.cost_points.specs.declared.point.Point.{Point}
use Rattle.cost_points.specs.declared.point.Split.{Split}

-- the activation has no part but its size
abbrev pub is_own : Done → Bool
is_own d = (d.thread == 0) && ((d.kernel == 0) && ((d.plain == d.size) && (d.bare == d.size)))

-- the parts with those of activations that have none but their sizes, which add up to `sizes`
abbrev pub split_with : ℕ → Split → Split
split_with sizes s = record {
  plain = s.plain + sizes;
  thread = s.thread;
  kernel = s.kernel;
  bare = s.bare + sizes;
}

-- the parts, if they are told, with those of `own` activations of the size that have none but that
abbrev pub tallied : Bool → ℕ → ℕ → Split → Option Split
tallied told size own s = if told then Some (split_with (size * own) s) else None

-- The activations are counted in 64 bits, and the sums that a point adds up fit in 128.
pub record IsTallied (p : Point) : Type 0 where
  pub calls : p.calls < 2 ^ 64
  pub split : IfSome p.split (λ s. (s.plain < 2 ^ 128) × (s.bare < 2 ^ 128))
