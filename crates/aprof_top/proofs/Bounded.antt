-- The run of a command is bounded.
use Rattle.std.proofs.Common.{ℕ, ◌+◌, ◌≤◌, List, arith}
use Rattle.command_line.specs.Options.{GuestOptions}
use Rattle.elf_image.specs.Reading.{image_of}
use Rattle.guest_machine.specs.Machine.{MachineState}
use Rattle.guest_run.specs.Laws.{RecordsObservedTurns, StepsWithin, scheduler}
use Rattle.guest_run.specs.ObservedRun.{first_past}
use Rattle.stamps.specs.Widths.{greatest}
use Rattle.thread_sched.specs.declared.entry.Entry.{Entry}
use Rattle.trace_model.specs.declared.event_kinds.Event.{Event}
use Rattle.trace_model.specs.Depth.{is_within}
use Rattle.std.specs.Prelude.{Bool, true}
use Rattle.aprof_top.specs.Laws.{IsBounded, RunsAreBounded}
use Rattle.aprof_top.specs.Run.{first_state, observed_from}

without_zero : (n m : ℕ) → n ≤ 0 + m → n ≤ m
without_zero n m h = omega (arith, h)

bounded_from : (fits : List Event → Bool) (options : GuestOptions) (turns : List Entry) (entry : ℕ) (state : MachineState) → StepsWithin → RecordsObservedTurns →
    IsBounded (observed_from fits options turns entry state) options.budget
unfolding observed_from
bounded_from fits options turns entry state few moves = record {
  steps = without_zero _ options.budget (few fits (first_past entry) (scheduler options.quantum turns) options.budget state);
  turns = moves fits (first_past entry) (scheduler options.quantum turns) options.budget state;
}

pub runs_are_bounded : StepsWithin → RecordsObservedTurns → RunsAreBounded
runs_are_bounded few moves = record {
  stamps = λ bits options loaded turns.
      bounded_from (is_within (greatest bits)) options turns (image_of loaded.image).entry (first_state options loaded) few moves;
  whole = λ options loaded turns.
      bounded_from (λ past. true) options turns (image_of loaded.image).entry (first_state options loaded) few moves;
}
