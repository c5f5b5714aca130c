-- The contexts of a run with their points, and where its threads are in them.
use Rattle.std.specs.Prelude.{◌≡◌, ℕ, ◌≤◌, length, List, All, is_some, map}
use Rattle.std.specs.Option.{option_map_or}
use Rattle.guest_words.specs.ByThread.{numbers, value_of}
use Rattle.trace_model.specs.declared.event_kinds.Event.{Event}
use Rattle.trace_model.specs.Activations.{open_calls}
use Rattle.trace_model.specs.WellFormed.{greatest_start, is_live}
use Rattle.cost_points.specs.declared.point.Point.{Point}
use Rattle.guest_words.specs.declared.limits.TheConstants.{CONTEXTS}
use Rattle.context_tree.specs.declared.order.Links.{Links}
use Rattle.context_tree.specs.Contexts.{context_of, contexts}
use Rattle.context_tree.specs.Links.{IsLinked}
use Rattle.context_tree.specs.Numbers.{IsNumberOf}
use Rattle.context_tree.specs.Numbers as by_number
use Rattle.context_tree.specs.Points.{points_in}

-- The contexts by number, the points of each and which are right under it, and for each thread that lives the number of the context that it is in: that of
-- its innermost open activation.
pub record KeptBranches : Type 0 where
  pub places : List (ℕ × ℕ)
  pub points : List (List Point)
  pub links : List Links
  pub threads : List (ℕ × ℕ)

-- the number of the context that the thread is in, and 0 where it has no open activation
abbrev pub current_of : KeptBranches → ℕ → ℕ
current_of kept t = option_map_or (λ n. n) (value_of kept.threads t) 0

-- It is what is kept of this past. The contexts of all open activations of a thread are that of the innermost and its
-- beginnings, so they are kept with it. There are no more contexts than can be numbered.
pub record BranchesStandFor (kept : KeptBranches) (past : List Event) : Type 0 where
  pub contexts_are : by_number.NumbersStandFor kept.places (contexts past)
  pub few : length (contexts past) ≤ CONTEXTS
  pub points_are : kept.points ≡ map (points_in past) (contexts past)
  pub links_are : IsLinked kept.places kept.links
  pub threads_live : (t : ℕ) → is_some (value_of kept.threads t) ≡ is_live past t
  pub threads_began : All (λ n. n ≤ greatest_start past) (numbers kept.threads)
  pub threads_in : (t : ℕ) → IsNumberOf (contexts past) (current_of kept t) (context_of (open_calls past t))
