-- A trial of a profiler.
use Rattle.std.specs.Prelude.{ℕ, List, reverse}
use Rattle.trace_model.specs.declared.event_kinds.Event.{Event}
use Rattle.trace_model.specs.declared.slow_profile.Done.{Done}
use Rattle.trace_order.specs.Order.{OrderState, IsOrderOf}
use Rattle.shadow_core.specs.Profiling.{StandsFor}
use Rattle.shadow_core.specs.State.{State}

-- the order and the profiler of the events, the events themselves, the oldest first, and what the profiler recorded
pub record TrialState : Type 0 where
  pub order : OrderState
  pub stamps : State
  pub kept : List Event
  pub done : List Done

-- The order and the profiler stand for the events that are kept.
pub record IsTrial (most : ℕ) (trial : TrialState) : Type 0 where
  pub order : IsOrderOf trial.order (reverse trial.kept)
  pub stamps : StandsFor most trial.stamps (reverse trial.kept)
