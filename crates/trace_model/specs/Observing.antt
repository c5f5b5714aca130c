-- What an observer of events owes. A past is the list of the events so far, the newest first.
use Rattle.std.specs.Prelude.{◌≡◌, ℕ, zero, suc, Bool, true, false, List, ◌∷◌, Result, Ok, Err}
use Rattle.std.specs.Allocator.{alloc_error}
use Rattle.std.specs.declared.alloc.AllocError.{AllocError}
use Rattle.trace_model.specs.declared.event_kinds.Event.{Event}
use Rattle.trace_model.specs.declared.event_kinds.Event.TheVariants.{Step}
use Rattle.trace_model.specs.declared.observer.Answer.{Answer}
use Rattle.trace_model.specs.declared.observer.Answer.TheVariants as answer
use Rattle.trace_model.specs.declared.observer.Observed.{Observed}
use Rattle.trace_model.specs.declared.observer.Observed.TheVariants.{Taken, Refused}
use Rattle.trace_model.specs.Cut.{cut, past_after}
use Rattle.trace_model.specs.WellFormed.{IsWellFormed}

-- It stands for some past after which the event may come.
pub record MayTake {O : Type 0} (Stands : O → List Event → Type 0) (o : O) (e : Event) : Type 0 where
  pub past : List Event
  pub now : Stands o past
  pub formed : IsWellFormed (e ∷ past)

-- Whatever past it stood for, it stands for that with the event, which fits; or still for that, since the event does not fit.
abbrev pub Observes : {O : Type 0} → (O → List Event → Type 0) → (List Event → Bool) → Event → O → O → Observed → Type 0
Observes Stands fits e old new Taken = (past : List Event) → Stands old past → Stands new (e ∷ past) × (fits (e ∷ past) ≡ true)
Observes Stands fits e old new Refused = (past : List Event) → Stands old past → Stands new past × (fits (e ∷ past) ≡ false)

-- It stands for all that it stood for.
abbrev pub StandsAsBefore : {O : Type 0} → (O → List Event → Type 0) → O → O → Type 0
StandsAsBefore Stands old new = (past : List Event) → Stands old past → Stands new past

-- It stands for some past that fits and after which all these events may come, one after the other.
pub record MayTakeAll {O : Type 0} (Stands : O → List Event → Type 0) (fits : List Event → Bool) (o : O) (events : List Event) : Type 0 where
  pub past : List Event
  pub now : Stands o past
  pub fitting : fits past ≡ true
  pub formed : IsWellFormed (past_after past events)

abbrev pub is_taken : Observed → Bool
is_taken Taken = true
is_taken Refused = false

-- Whatever past that fits it stood for, it stands for that with the events, up to the first that does not fit; it says whether
-- all of them do.
abbrev pub ObservesAll : {O : Type 0} → (O → List Event → Type 0) → (List Event → Bool) → List Event → O → O → Observed → Type 0
ObservesAll Stands fits events old new observed =
    (past : List Event) → Stands old past → fits past ≡ true →
    Stands new (cut fits (past_after past events)) × (fits (past_after past events) ≡ is_taken observed)

-- what an answer in one number says
abbrev pub result_of : Answer → Result Observed AllocError
result_of answer.Taken = Ok Taken
result_of answer.Refused = Ok Refused
result_of answer.OutOfMemory = Err alloc_error

-- ---- Steps of a thread in a row.
-- the past with more steps of the thread
abbrev pub with_steps : ℕ → ℕ → List Event → List Event
with_steps tid zero past = past
with_steps tid (suc n) past = Step tid ∷ with_steps tid n past

-- Where a past fits, it does so with one more step.
abbrev pub StepsFit : (List Event → Bool) → Type 0
StepsFit fits = (tid : ℕ) (past : List Event) → fits past ≡ true → fits (Step tid ∷ past) ≡ true

-- It stands for some past that fits and after which `count` steps of the thread may come.
pub record MayStepBy {O : Type 0} (Stands : O → List Event → Type 0) (fits : List Event → Bool) (o : O) (tid count : ℕ) : Type 0 where
  pub past : List Event
  pub now : Stands o past
  pub fitting : fits past ≡ true
  pub formed : IsWellFormed (with_steps tid count past)

-- Whatever past that fits it stood for, it stands for that with the steps.
abbrev pub StepsBy : {O : Type 0} → (O → List Event → Type 0) → (List Event → Bool) → ℕ → ℕ → O → O → Type 0
StepsBy Stands fits tid count old new = (past : List Event) → Stands old past → fits past ≡ true → Stands new (with_steps tid count past)

-- ---- Steps of a thread in a row, and an event after them.
-- It stands for some past that fits and after which `count` steps of the thread and then the event may come.
pub record MayTakeAfter {O : Type 0} (Stands : O → List Event → Type 0) (fits : List Event → Bool) (o : O) (tid count : ℕ) (e : Event) : Type 0 where
  pub past : List Event
  pub now : Stands o past
  pub fitting : fits past ≡ true
  pub formed : IsWellFormed (e ∷ with_steps tid count past)

-- Whatever past that fits it stood for, it stands for that with the steps and the event, which fits; or with the steps alone,
-- since the event does not fit.
abbrev pub ObservesAfter : {O : Type 0} → (O → List Event → Type 0) → (List Event → Bool) → ℕ → ℕ → Event → O → O → Observed → Type 0
ObservesAfter Stands fits tid count e old new Taken =
    (past : List Event) → Stands old past → fits past ≡ true →
    Stands new (e ∷ with_steps tid count past) × (fits (e ∷ with_steps tid count past) ≡ true)
ObservesAfter Stands fits tid count e old new Refused =
    (past : List Event) → Stands old past → fits past ≡ true →
    Stands new (with_steps tid count past) × (fits (e ∷ with_steps tid count past) ≡ false)
