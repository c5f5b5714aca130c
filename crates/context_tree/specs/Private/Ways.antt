-- The way up from a context, to those above it, by their numbers.
use Rattle.std.specs.Prelude.{ℕ, zero, suc, ◌-◌, ◌<◌, ◌≤◌, List, [], ◌∷◌, length, map, slice_index_or}
use Rattle.std.specs.List.{All}
use Rattle.trace_model.specs.declared.slow_profile.Done.{Done}
use Rattle.cost_points.specs.declared.point.Point.{Point}
use Rattle.cost_points.specs.Keys.{IsRising, put}
use Rattle.cost_points.specs.Merging.{merged}
use Rattle.cost_points.specs.Points.{point_of}
use Rattle.cost_points.specs.Search.{HasRoom}
use Rattle.context_tree.specs.Numbers.{above_of, numbered}

-- the number of the context that is k above that of the number n
abbrev pub up : List (ℕ × ℕ) → ℕ → ℕ → ℕ
up places n zero = n
up places n (suc k) = above_of places (up places n k)

-- There are `count` contexts on the way up, none of them the one with no entry.
pub record IsWay (places : List (ℕ × ℕ)) (n count : ℕ) : Type 0 where
  pub within : n ≤ length places
  pub falls : (k : ℕ) → k < count → up places n (suc k) < up places n k

-- the points of a context, and how many can be added without allocating
pub record PointList : Type 0 where
  pub points : List Point
  pub room : ℕ

abbrev pub no_points : PointList
no_points = record { points = []; room = 0 }

-- the points of each context
abbrev pub lists : List PointList → List (List Point)
lists items = map (λ c. c.points) items

-- There is room for one point in each context on the way up.
abbrev pub HasSpare : List PointList → List (ℕ × ℕ) → ℕ → ℕ → Type 0
HasSpare items places n count = (k : ℕ) → k < count → 1 ≤ (slice_index_or items (up places n k - 1) no_points).room

-- The sizes rise, and there is room for as many activations again.
pub record ArePoints (ps : List Point) : Type 0 where
  pub rising : IsRising (map (λ p. p.size) ps)
  pub room : All HasRoom ps

-- points with one more activation
abbrev pub with_ended : Done → List Point → List Point
with_ended d ps =
    let p = point_of d.size (d ∷ []) in
    put (λ q. q.size) d.size (λ q. merged q p) p ps

-- ended activations, the innermost first, each with its context, where that of the first has the number n
abbrev pub tagged : List (ℕ × ℕ) → List (List ℕ) → ℕ → List Done → List (List ℕ × Done)
tagged places contexts n [] = []
tagged places contexts n (d ∷ ds) = (numbered contexts n, d) ∷ tagged places contexts (above_of places n) ds
