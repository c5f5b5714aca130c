-- A step whose events are told by what it did, or added to a list.
use Rattle.std.specs.Prelude.{◌≡◌, ℕ, zero, suc, List, [], ◌∷◌, ◌++◌, None}
use Rattle.trace_model.specs.declared.event_kinds.Event.{Event}
use Rattle.trace_model.specs.declared.event_kinds.Event.TheVariants.{Step}
use Rattle.trace_model.specs.EventList.{EventList}
use Rattle.guest_machine.specs.declared.stepped.Stepped.{Stepped}
use Rattle.guest_machine.specs.declared.stepped.Stepped.TheVariants.{Went}
use Rattle.guest_machine.specs.declared.stepped.Advanced.{Advanced}
use Rattle.guest_machine.specs.declared.stepped.Advanced.TheVariants.{Ran, Accessed, Jumped, Other}
use Rattle.guest_machine.specs.Kept.{Parts, Steps, out_of}
use Rattle.guest_machine.specs.Step.{StepResult, access_events, jump_events}

-- the events that are told
abbrev pub told : ℕ → Advanced → List Event
told tid Ran = Step tid ∷ []
told tid (Accessed accessed) = Step tid ∷ access_events tid accessed
told tid (Jumped jump target back) = Step tid ∷ jump_events jump tid target back
told tid (Other outcome) = []

-- what an instruction did beside its step: its accesses, its calls and returns
abbrev pub done_by : ℕ → Advanced → List Event
done_by tid Ran = []
done_by tid (Accessed accessed) = access_events tid accessed
done_by tid (Jumped jump target back) = jump_events jump tid target back
done_by tid (Other outcome) = []

-- that many steps of the thread
abbrev pub steps_of : ℕ → ℕ → List Event
steps_of tid zero = []
steps_of tid (suc n) = steps_of tid n ++ Step tid ∷ []

-- what became of the thread
abbrev pub stepped_of : Advanced → Stepped
stepped_of (Other outcome) = outcome
stepped_of instruction = Went

-- The step is of the result, whose events are those that were added and then those that are told.
abbrev pub StepsTold : StepResult → ℕ → Advanced → Parts → List Event → List Event → Type 0
StepsTold r tid advanced new before after = Steps r (stepped_of advanced) new before (after ++ told tid advanced)

-- Nothing goes out by an instruction that went, and no event is added.
abbrev pub IsQuiet : Advanced → Parts → EventList → EventList → Type 0
IsQuiet (Other outcome) new before after = Unit {0}
IsQuiet instruction new before after = (out_of new ≡ None) × (after ≡ before)

-- It is an instruction that went.
abbrev pub IsInstruction : Advanced → Type 0
IsInstruction (Other outcome) = ⊥
IsInstruction instruction = Unit {0}
