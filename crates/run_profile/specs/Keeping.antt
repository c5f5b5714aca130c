-- What a keeper of ended activations owes. A past is the list of the events so far, the newest first; a keeper `Holds` a past, and
-- the first few of the activations that ended at the event after it.
use Rattle.std.specs.Prelude.{◌≡◌, ℕ, Bool, true, false, List, [], ◌∷◌}
use Rattle.trace_model.specs.declared.event_kinds.Event.{Event}
use Rattle.trace_model.specs.declared.slow_profile.Done.{Done}
use Rattle.trace_model.specs.Observing.{with_steps}
use Rattle.trace_model.specs.Profile.{ended}
use Rattle.trace_model.specs.WellFormed.{IsWellFormed}

-- It holds some past after which the event may come and ends these activations, and the first few of those that it `had`.
pub record MayKeep {K : Type 0} (Holds : K → List Event → List Done → Type 0) (k : K) (had : List Done) (e : Event) (ends : List Done) : Type 0 where
  pub past : List Event
  pub now : Holds k past had
  pub formed : IsWellFormed (e ∷ past)
  pub ends_are : ends ≡ ended e past

-- It holds some past after which these steps of the thread may come.
pub record MayKeepSteps {K : Type 0} (Holds : K → List Event → List Done → Type 0) (k : K) (tid count : ℕ) : Type 0 where
  pub past : List Event
  pub now : Holds k past []
  pub formed : IsWellFormed (with_steps tid count past)

-- it holds the past with the event, or still without it and without what the event ended
abbrev pub Passes : {K : Type 0} → (K → List Event → List Done → Type 0) → K → Event → List Event → List Done → Bool → Type 0
Passes Holds k e past ends true = Holds k (e ∷ past) []
Passes Holds k e past ends false = Holds k past ends
