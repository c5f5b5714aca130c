-- The text of a run's trace, as it is written on.
use Rattle.std.specs.Prelude.{List}
use Rattle.trace_model.specs.declared.event_kinds.Event.{Event}
use Rattle.trace_model.specs.WellFormed.{IsWellFormed}
use Rattle.stored_traces.specs.Kept.{Written, IsWrittenOf}

-- What is written so far is that of some past that a run can have.
pub record MayWrite (w : Written) : Type 0 where
  pub past : List Event
  pub now : IsWrittenOf w past
  pub formed : IsWellFormed past
