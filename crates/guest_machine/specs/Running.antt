-- Steps of one thread in a row, and what an observer has of them.
use Rattle.std.specs.Prelude.{◌≡◌, ℕ, zero, suc, ◌<◌, Bool, true, false, List, [], ◌++◌, None}
use Rattle.trace_model.specs.declared.event_kinds.Event.{Event}
use Rattle.trace_model.specs.declared.observer.Observed.{Observed}
use Rattle.trace_model.specs.declared.observer.Observed.TheVariants.{Taken, Refused}
use Rattle.trace_model.specs.Cut.{cut, past_after}
use Rattle.trace_model.specs.WellFormed.{IsWellFormed}
use Rattle.guest_machine.specs.declared.rows.KnownSteps.{KnownSteps}
use Rattle.guest_machine.specs.declared.stepped.Stepped.TheVariants.{Went}
use Rattle.guest_machine.specs.Kept.{Parts, machine_of, out_of}
use Rattle.guest_machine.specs.Machine.{MachineState}
use Rattle.guest_machine.specs.Step.{StepResult, step}

-- the machine after that many steps of a thread
abbrev pub after_steps : MachineState → ℕ → ℕ → MachineState
after_steps m tid zero = m
after_steps m tid (suc n) = (step (after_steps m tid n) tid).machine

-- the events of these steps, in order
abbrev pub events_of_steps : MachineState → ℕ → ℕ → List Event
events_of_steps m tid zero = []
events_of_steps m tid (suc n) = events_of_steps m tid n ++ (step (after_steps m tid n) tid).events

-- The thread goes on after the step, by which nothing goes out.
pub record GoesOn (r : StepResult) : Type 0 where
  pub outcome : r.outcome ≡ Went
  pub out : r.out ≡ None

-- So it is at each of these steps.
abbrev pub AllGoOn : MachineState → ℕ → ℕ → Type 0
AllGoOn m tid zero = Unit {0}
AllGoOn m tid (suc n) = AllGoOn m tid n × GoesOn (step (after_steps m tid n) tid)

-- The observer stands for some past that fits, and the events of up to `most` steps may come, as long as the thread goes on
-- and the events so far fit.
pub record MayTakeSteps {O : Type 0} (Stands : O → List Event → Type 0) (fits : List Event → Bool) (o : O) (m : MachineState) (tid most : ℕ) : Type 0 where
  pub past : List Event
  pub now : Stands o past
  pub fitting : fits past ≡ true
  pub formed : (n : ℕ) → n < most → AllGoOn m tid n → fits (past_after past (events_of_steps m tid n)) ≡ true →
      IsWellFormed (past_after past (events_of_steps m tid (suc n)))

-- Whatever past that fits it stood for, it stands for that with the events of the steps, which fit; or those of the last step
-- do not, and it stands for that with as many of them as fit.
abbrev pub ObservesSteps : {O : Type 0} → (O → List Event → Type 0) → (List Event → Bool) → MachineState → ℕ → O → O → ℕ → Observed → Type 0
ObservesSteps Stands fits m tid old new count Taken =
    (past : List Event) → Stands old past → fits past ≡ true →
    Stands new (past_after past (events_of_steps m tid count)) × (fits (past_after past (events_of_steps m tid count)) ≡ true)
ObservesSteps Stands fits m tid old new zero Refused = ⊥
ObservesSteps Stands fits m tid old new (suc n) Refused =
    (past : List Event) → Stands old past → fits past ≡ true →
    (fits (past_after past (events_of_steps m tid n)) ≡ true)
    × Stands new (cut fits (past_after past (events_of_steps m tid (suc n))))
    × (fits (past_after past (events_of_steps m tid (suc n))) ≡ false)

-- Steps were made, after each of which the thread goes on; and that is what the observer has of them.
pub record MakesSteps {O : Type 0} (Stands : O → List Event → Type 0) (fits : List Event → Bool) (m : MachineState) (tid : ℕ) (old : O)
    (new : Parts) (observer : O) (known : KnownSteps) : Type 0 where
  pub all : AllGoOn m tid known.count
  pub machine : machine_of new ≡ after_steps m tid known.count
  pub out : out_of new ≡ None
  pub observed : ObservesSteps Stands fits m tid old observer known.count known.observed
