-- What a table of points holds.
use Rattle.std.specs.Prelude.{ℕ, ◌<◌, ◌≤◌, ◌^◌, List, length}
use Rattle.std.specs.List.{All}
use Rattle.trace_model.specs.declared.slow_profile.Done.{Done}
use Rattle.cost_points.specs.declared.point.Point.{Point}
use Rattle.cost_points.specs.Points.{Routine, points}
use Rattle.cost_points.specs.Valid.{IsProfile}

-- How many activations were added, and the routines of these.
pub record TableContents : Type 0 where
  pub members : ℕ
  pub routines : List Routine

-- the contents of a list of ended activations
abbrev pub contents_of : List Done → TableContents
contents_of added = record { members = length added; routines = points added }

-- The point is of no more activations than these, and its size and its greatest cost are numbers of 64 bits.
pub record IsCounted (members : ℕ) (p : Point) : Type 0 where
  pub calls : p.calls ≤ members
  pub size : p.size < 2 ^ 64
  pub most : p.most < 2 ^ 64

-- The routines are in order and at most as many as the activations, and no point is of more activations than were added.
pub record IsContents (t : TableContents) : Type 0 where
  pub profile : IsProfile t.routines
  pub few : length t.routines ≤ t.members
  pub counted : All (λ r. All (IsCounted t.members) r.points) t.routines
