-- One step of a machine whose run is observed.
use Rattle.std.specs.Prelude.{◌≡◌, ◌⊎◌, ℕ, Bool, true, if◌then◌else◌, List, [], Option, Result, Ok, Err}
use Rattle.guest_words.specs.declared.endings.Finish.TheVariants.{Deep}
use Rattle.trace_model.specs.declared.event_kinds.Event.{Event}
use Rattle.trace_model.specs.Cut.{cut, past_after}
use Rattle.guest_machine.specs.declared.stepped.Stepped.{Stepped}
use Rattle.guest_machine.specs.Kept.{Parts, Steps}
use Rattle.guest_machine.specs.Machine.{MachineState}
use Rattle.guest_machine.specs.Step.{StepResult}
use Rattle.host_io.specs.Sink.{SinkState, appended}
use Rattle.guest_kernel.specs.declared.channel.Channel.{Channel}
use Rattle.guest_run.specs.declared.run_error.RunError.{RunError}
use Rattle.guest_run.specs.declared.run_error.RunError.TheVariants.{CannotPut, Memory}
use Rattle.guest_run.specs.declared.turn_status.TurnStatus.{TurnStatus}
use Rattle.guest_run.specs.declared.turn_status.TurnStatus.TheVariants.{Ends}
use Rattle.guest_run.specs.Machine.{Progress, progress_of}
use Rattle.guest_run.specs.Output.{FailsOn, FailsToPut, Sinks}
use Rattle.guest_kernel.specs.declared.channel.Channel.TheVariants as channels
use Rattle.guest_run.specs.Run.{sent}

-- the sinks with what one step put out
abbrev pub with_sent : Option (Channel × List ℕ) → Sinks → Sinks
with_sent out before = record { out = appended before.out (sent channels.Out out); err = appended before.err (sent channels.Err out) }

-- how bytes are put on the sink of a channel
abbrev pub PutEndsOn : Channel → List ℕ → SinkState → SinkState → Result Unit RunError → Type 0
PutEndsOn channel bytes old new (Ok done) = new ≡ appended old bytes
PutEndsOn channel bytes old new (Err (CannotPut failed)) = (failed ≡ channel) × FailsToPut bytes old new
PutEndsOn channel bytes old new (Err Memory) = new ≡ old

-- how the bytes of a step are put
abbrev pub PutsSent : Option (Channel × List ℕ) → Sinks → Sinks → Result Unit RunError → Type 0
PutsSent out before after (Ok done) = after ≡ with_sent out before
PutsSent out before after (Err (CannotPut channel)) = FailsOn channel out before after
PutsSent out before after (Err Memory) = after ≡ before

-- The machine made the step, its bytes were put, and the observer has its events as long as they fit.
pub record IsStepped {W : Type 0} (Stands : W → List Event → Type 0) (fits : List Event → Bool) (p : Progress MachineState)
    (old observer : W) (before : Sinks) (new : MachineState) (after : Sinks) (status : TurnStatus) : Type 0 where
  pub state : new ≡ p.state
  pub output : after ≡ with_sent p.out before
  pub observed : (past : List Event) → Stands old past → fits past ≡ true →
      Stands observer (cut fits (past_after past p.events)) × (status ≡ (if fits (past_after past p.events) then p.turn_status else Ends Deep))

-- how a step ends
abbrev pub StepEnds : {W : Type 0} → (W → List Event → Type 0) → (List Event → Bool) → Progress MachineState →
    W → Sinks → MachineState → W → Sinks → Result TurnStatus RunError → Type 0
StepEnds Stands fits p old before state observer after (Ok status) = IsStepped Stands fits p old observer before state after status
StepEnds Stands fits p old before state observer after (Err (CannotPut channel)) = FailsOn channel p.out before after
StepEnds Stands fits p old before state observer after (Err Memory) = (after ≡ before) ⊎ (after ≡ with_sent p.out before)

-- how it ends for each step of the guest that has this outcome, gave this machine and added these events
abbrev pub StepEndsAs : {W : Type 0} → (W → List Event → Type 0) → (List Event → Bool) → ℕ → Stepped → Parts → List Event →
    W → Sinks → MachineState → W → Sinks → Result TurnStatus RunError → Type 0
StepEndsAs Stands fits tid stepped made events old before state observer after result =
    (r : StepResult) → Steps r stepped made [] events → StepEnds Stands fits (progress_of tid r) old before state observer after result
