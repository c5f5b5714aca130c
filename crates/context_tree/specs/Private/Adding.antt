-- One context more.
use Rattle.std.specs.Prelude.{ℕ, ◌≤◌, Bool, if◌then◌else◌, List, [], ◌∷◌, ◌++◌, length}
use Rattle.cost_points.specs.declared.point.Point.{Point}
use Rattle.context_tree.specs.declared.order.Links.{Links}
use Rattle.context_tree.specs.Links.{IsLinked}

-- These are the links of some places, among which the number is.
pub record AreLinked (links : List Links) (n : ℕ) : Type 0 where
  pub places : List (ℕ × ℕ)
  pub now : IsLinked places links
  pub within : n ≤ length places

-- the points of each context with those of a context that comes last, which has none, unless it is one of them
abbrev pub with_list : Bool → List (List Point) → List (List Point)
with_list there lists = if there then lists else lists ++ [] ∷ []
