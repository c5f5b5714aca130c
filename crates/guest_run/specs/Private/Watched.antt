-- A machine that keeps the past of its run, and ends the run with `Deep` by the step after which it does not fit.
use Rattle.std.specs.Prelude.{Bool, if◌then◌else◌, List}
use Rattle.guest_words.specs.declared.endings.Finish.TheVariants.{Deep}
use Rattle.trace_model.specs.declared.event_kinds.Event.{Event}
use Rattle.trace_model.specs.Cut.{cut, past_after}
use Rattle.guest_run.specs.declared.turn_status.TurnStatus.TheVariants.{Ends}
use Rattle.guest_run.specs.Machine.{Progress, Machine}
use Rattle.guest_run.specs.Run.{WrittenRun, events_of}
use Rattle.guest_run.specs.ObservedRun.{ObservedRun}

abbrev pub watched_step : {State : Type 0} → (List Event → Bool) → List Event → Progress State → Progress (List Event × State)
watched_step fits past p =
    let next = past_after past p.events in
    record {
      state = (next, p.state);
      events = p.events;
      out = p.out;
      turn_status = if fits next then p.turn_status else Ends Deep;
    }

abbrev pub watched : {State : Type 0} → (List Event → Bool) → Machine State → Machine (List Event × State)
watched fits machine = record {
  step = λ state tid. watched_step fits state.0 (machine.step state.1 tid);
  ready = λ state. machine.ready state.1;
  wake = λ state. (state.0, machine.wake state.1);
}

-- a run with the cut of its trace
abbrev pub with_cut : (List Event → Bool) → List Event → WrittenRun → ObservedRun
with_cut fits past run = record { moves = run.moves; past = cut fits (past_after past (events_of run.moves)); finish = run.finish }
