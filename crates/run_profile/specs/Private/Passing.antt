-- Events that go on to a keeper which has taken all before them.
use Rattle.std.specs.Prelude.{◌≡◌, ℕ, Bool, true, false, List, [], ◌∷◌, None}
use Rattle.trace_model.specs.declared.event_kinds.Event.{Event}
use Rattle.trace_model.specs.declared.event_kinds.Event.TheVariants.{Call, Read, Write}
use Rattle.trace_model.specs.declared.slow_profile.Done.{Done}
use Rattle.trace_model.specs.Observing.{with_steps}
use Rattle.trace_model.specs.Profile.{steps}
use Rattle.trace_model.specs.WellFormed.{IsWellFormed}
use Rattle.run_profile.specs.Profile.{KeptRun}

-- The keeper has taken this past, and its steps are counted.
pub record IsSettled {K : Type 0} (Holds : K → List Event → List Done → Type 0) (run : KeptRun K) (past : List Event) : Type 0 where
  pub none : run.next ≡ None
  pub kept : Holds run.kept past []
  pub steps_are : run.steps ≡ steps past

-- It has taken some past after which these steps of the thread and then the event may come.
pub record MayPass {K : Type 0} (Holds : K → List Event → List Done → Type 0) (run : KeptRun K) (tid count : ℕ) (e : Event) : Type 0 where
  pub past : List Event
  pub now : IsSettled Holds run past
  pub formed : IsWellFormed (e ∷ with_steps tid count past)

-- an access or a call
abbrev pub ends_none : Event → Bool
ends_none (Read t first count) = true
ends_none (Write t first count) = true
ends_none (Call t entry back) = true
ends_none _ = false
