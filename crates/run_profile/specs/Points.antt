-- The points of the activations of a past that ended.
use Rattle.std.specs.Prelude.{◌≡◌, Bool, true, false, ℕ, ◌≤◌, List, ◌++◌, length, take}
use Rattle.trace_model.specs.declared.event_kinds.Event.{Event}
use Rattle.trace_model.specs.declared.event_kinds.Event.TheVariants.{Ret, End}
use Rattle.trace_model.specs.declared.slow_profile.Done.{Done}
use Rattle.trace_model.specs.Profile.{done}
use Rattle.cost_points.specs.Contents.{TableContents, contents_of}

-- The points, and how many of the activations that ended last are among them already.
pub record KeptPoints : Type 0 where
  pub table : TableContents
  pub added : ℕ

-- They are those of each activation that ended in the past, and of the first of these.
pub record HoldsPoints (kept : KeptPoints) (past : List Event) (ends : List Done) : Type 0 where
  pub inside : kept.added ≤ length ends
  pub table : kept.table ≡ contents_of (done past ++ take kept.added ends)

-- an event that may end activations
abbrev pub may_end : Event → Bool
may_end (Ret t target) = true
may_end (End t) = true
may_end _ = false
