-- The profile of a run, by its past, the list of its events with the newest first.
use Rattle.std.specs.Prelude.{◌≡◌, ℕ, List, [], ◌++◌, Option, Some, None}
use Rattle.std.specs.Option.{option_map_or, option_to_list}
use Rattle.trace_model.specs.declared.event_kinds.Event.{Event}
use Rattle.trace_model.specs.declared.slow_profile.Done.{Done}
use Rattle.trace_model.specs.Depth.{pending}
use Rattle.trace_model.specs.Profile.{done, ended, steps}
use Rattle.trace_model.specs.WellFormed.{IsWellFormed}
use Rattle.cost_points.specs.Contents.{contents_of}
use Rattle.stamp_table.specs.Counting.{renumberings}
use Rattle.shadow_core.specs.Profiling.{StandsFor}
use Rattle.shadow_core.specs.State.{State}
use Rattle.run_profile.specs.declared.totals.Counts.{Counts}
use Rattle.run_profile.specs.declared.totals.Totals.{Totals}

-- The stamp table, what the keeper has, the newest event where the keeper is still to take it, what ended at it, and how many
-- steps there were.
pub record KeptRun (K : Type 0) : Type 0 where
  pub stamps : State
  pub kept : K
  pub next : Option Event
  pub ended : List Done
  pub steps : ℕ

-- what ended at the newest event
abbrev pub ended_at : Option Event → List Event → List Done
ended_at None past = []
ended_at (Some e) past = ended e past

-- what the keeper is still to take of what ended at the newest event
abbrev pub waiting : {K : Type 0} → KeptRun K → List Done
waiting run = option_map_or (λ e. run.ended) run.next []

-- It is that of this past, where the greatest stamp is `most` and the keeper holds what it has taken.
pub record IsProfileOf (most : ℕ) {K : Type 0} (Holds : K → List Event → List Done → Type 0) (run : KeptRun K) (past : List Event) : Type 0 where
  pub stands : StandsFor most run.stamps past
  -- the events that the keeper has taken
  pub earlier : List Event
  pub all : past ≡ option_to_list run.next ++ earlier
  pub ended_is : waiting run ≡ ended_at run.next earlier
  pub kept : Holds run.kept earlier (waiting run)
  pub steps_are : run.steps ≡ steps past

-- It is that of some past that a run can have.
pub record IsOfFormed (most : ℕ) {K : Type 0} (Holds : K → List Event → List Done → Type 0) (run : KeptRun K) : Type 0 where
  pub past : List Event
  pub now : IsProfileOf most Holds run past
  pub formed : IsWellFormed past

-- These are the steps, the activations still open and the renumberings.
pub record AreCountsOf (most : ℕ) (counts : Counts) (past : List Event) : Type 0 where
  pub steps_are : counts.steps ≡ steps past
  pub pending_are : counts.pending ≡ pending past
  pub renumbered_are : counts.renumbered ≡ renumberings most past

-- These are the points of each activation that ended, and the counts.
pub record AreTotalsOf (most : ℕ) (totals : Totals) (past : List Event) : Type 0 where
  pub points : totals.points ≡ contents_of (done past)
  pub counts : AreCountsOf most totals.counts past
