-- The observed run of an executable.
use Rattle.std.specs.Prelude.{ℕ, Bool, true, List}
use Rattle.command_line.specs.Options.{GuestOptions, arguments}
use Rattle.elf_image.specs.Reading.{image_of}
use Rattle.guest_machine.specs.Machine.{MachineState}
use Rattle.guest_machine.specs.Start.{start}
use Rattle.guest_run.specs.Laws.{scheduler}
use Rattle.guest_run.specs.Machine.{guest}
use Rattle.guest_run.specs.ObservedRun.{ObservedRun, first_past, observed_run}
use Rattle.guest_run.specs.Run.{run}
use Rattle.trace_model.specs.declared.event_kinds.Event.{Event}
use Rattle.trace_model.specs.Depth.{is_within}
use Rattle.stamps.specs.declared.width.StampBits.{StampBits}
use Rattle.stamps.specs.Widths.{greatest}
use Rattle.thread_sched.specs.declared.entry.Entry.{Entry}
use Rattle.aprof_top.specs.Loads.{Loaded}

-- the machine as it begins: the image, the arguments, the input files by their names, and standard input
unfoldable pub first_state : GuestOptions → Loaded → MachineState
first_state options loaded =
    start (image_of loaded.image) (arguments options) loaded.inputs loaded.stdin

-- what is observed of the run of a machine that begins at this address, under a schedule with these turns
unfoldable pub observed_from : (List Event → Bool) → GuestOptions → List Entry → ℕ → MachineState → ObservedRun
observed_from fits options turns entry state =
    observed_run fits (first_past entry) (run guest (scheduler options.quantum turns) options.budget state)

-- what is observed of the run with these files: its moves, its trace and how it ended, as far as the trace fits
abbrev pub observed_of : (List Event → Bool) → GuestOptions → Loaded → List Entry → ObservedRun
observed_of fits options loaded turns = observed_from fits options turns (image_of loaded.image).entry (first_state options loaded)

-- the same as far as stamps of the width can tell the open calls apart
abbrev pub run_of : StampBits → GuestOptions → Loaded → List Entry → ObservedRun
run_of bits = observed_of (is_within (greatest bits))

-- the same of the whole run, whatever its open calls
abbrev pub whole_run_of : GuestOptions → Loaded → List Entry → ObservedRun
whole_run_of = observed_of (λ past. true)
