-- What a run needs of the machine that it drives, and the guest as such a machine.
use Rattle.std.specs.Prelude.{ℕ, Bool, List, Option}
use Rattle.guest_words.specs.declared.endings.Finish.TheVariants.{Exit, Fault}
use Rattle.trace_model.specs.declared.event_kinds.Event.{Event}
use Rattle.guest_kernel.specs.declared.channel.Channel.{Channel}
use Rattle.guest_kernel.specs.Kernel.{ready}
use Rattle.guest_machine.specs.declared.stepped.Stepped.{Stepped}
use Rattle.guest_machine.specs.declared.stepped.Stepped.TheVariants.{Went, Yielded, Blocked, Ended, Finished, Faulted}
use Rattle.guest_machine.specs.Machine.{MachineState}
use Rattle.guest_machine.specs.Step.{StepResult, step}
use Rattle.guest_machine.specs.Waking.{woken}
use Rattle.guest_run.specs.declared.turn_status.TurnStatus.{TurnStatus}
use Rattle.guest_run.specs.declared.turn_status.TurnStatus.TheVariants.{GoesOn, TurnOver, Ends}

-- a turn is over early where its thread yields, waits or ends
abbrev pub turn_status_of : ℕ → Stepped → TurnStatus
turn_status_of tid Went = GoesOn
turn_status_of tid Yielded = TurnOver
turn_status_of tid Blocked = TurnOver
turn_status_of tid Ended = TurnOver
turn_status_of tid (Finished status) = Ends (Exit status)
turn_status_of tid (Faulted kind at) = Ends (Fault kind tid at)

-- What one step gives: the state after it, its events in order, the bytes that go out with their channel, and what it means for its turn.
pub record Progress (State : Type 0) : Type 0 where
  pub state : State
  pub events : List Event
  pub out : Option (Channel × List ℕ)
  pub turn_status : TurnStatus

-- A machine: the step of a thread, the live threads with whether each can run, and what is woken before the next turn is
-- chosen.
pub record Machine (State : Type 0) : Type 0 where
  pub step : State → ℕ → Progress State
  pub ready : State → List (ℕ × Bool)
  pub wake : State → State

abbrev pub progress_of : ℕ → StepResult → Progress MachineState
progress_of tid r = record { state = r.machine; events = r.events; out = r.out; turn_status = turn_status_of tid r.outcome }

-- The guest, whose threads the clock wakes.
abbrev pub guest : Machine MachineState
guest = record {
  step = λ m tid. progress_of tid (step m tid);
  ready = λ m. ready m.kernel;
  wake = woken;
}
