-- A list of events with room made ahead.
use Rattle.std.specs.Prelude.{ℕ, List}
use Rattle.trace_model.specs.declared.event_kinds.Event.{Event}

-- the events, the oldest first, and how many more can be added without taking memory
pub record EventList : Type 0 where
  pub list : List Event
  pub room : ℕ
