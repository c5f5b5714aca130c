-- How the parts of the program end: the ends of a call, as the program has them.
use Rattle.std.specs.Prelude.{ℕ, List, Some}
use Rattle.command_line.specs.Options.{Asked, AsksFor}
use Rattle.command_line.specs.declared.commands.CommandError.{CommandError}
use Rattle.command_line.specs.declared.commands.CommandError.TheVariants as command
use Rattle.elf_image.specs.declared.error.ElfError.{ElfError}
use Rattle.elf_image.specs.declared.error.ElfError.TheVariants as elf
use Rattle.guest_machine.specs.declared.setup.SetupError.{SetupError}
use Rattle.guest_machine.specs.declared.setup.SetupError.TheVariants as setup
use Rattle.guest_kernel.specs.declared.channel.Channel.TheVariants as channel
use Rattle.guest_run.specs.declared.run_error.RunError.{RunError}
use Rattle.guest_run.specs.declared.run_error.RunError.TheVariants as run
use Rattle.host_io.specs.declared.files.StoreError.{StoreError}
use Rattle.host_io.specs.declared.files.StoreError.TheVariants as store
use Rattle.host_io.specs.declared.sink.PutError.{PutError}
use Rattle.host_io.specs.declared.sink.PutError.TheVariants as put
use Rattle.thread_sched.specs.declared.schedule.ScheduleError.{ScheduleError}
use Rattle.thread_sched.specs.declared.schedule.ScheduleError.TheVariants as schedule
use Rattle.trace_file.specs.declared.errors.TraceError.{TraceError}
use Rattle.trace_file.specs.declared.errors.TraceError.TheVariants as trace
use Rattle.aprof_top.specs.Ends as ends
use Rattle.aprof_top.specs.Ends.{End, Reaches}
use Rattle.aprof_top.specs.Outside.{Outside}
use Rattle.aprof_top.specs.declared.ending.CommandEnding.{CommandEnding}
use Rattle.aprof_top.specs.declared.ending.CommandEnding.TheVariants.{CannotRead, Ended}
use Rattle.aprof_top.specs.declared.ending.Ending.{Ending}
use Rattle.aprof_top.specs.declared.ending.Ending.TheVariants.{Decided, CannotWrite, CannotPut, OutOfMemory}
use Rattle.aprof_top.specs.declared.ending.Verdict.TheVariants.{BadCommand, BadImage, BadSchedule, BadTrace, TooLarge}

-- ---- by the failures of parts
-- by that of the words
abbrev pub of_command : CommandError → Ending
of_command command.Refused = Decided BadCommand
of_command command.Memory = OutOfMemory

-- by that of an image
abbrev pub of_image : ElfError → Ending
of_image elf.Memory = OutOfMemory
of_image e = Decided (BadImage e)

-- by that of a schedule
abbrev pub of_schedule : ScheduleError → Ending
of_schedule (schedule.BadLine line) = Decided (BadSchedule line)
of_schedule schedule.Memory = OutOfMemory

-- by that of a trace
abbrev pub of_trace : TraceError → Ending
of_trace trace.Memory = OutOfMemory
of_trace e = Decided (BadTrace e)

-- by that of a guest's start
abbrev pub of_setup : SetupError → Ending
of_setup setup.ArgsTooLong = Decided TooLarge
of_setup setup.Pages = Decided TooLarge
of_setup setup.Memory = OutOfMemory

-- by that of a run: a put on `out` or on `err`
abbrev pub of_run : RunError → Ending
of_run (run.CannotPut channel.Out) = CannotWrite
of_run (run.CannotPut channel.Err) = CannotPut
of_run run.Memory = OutOfMemory

-- by that of a put on `out`
abbrev pub of_put : PutError → Ending
of_put put.Failed = CannotWrite
of_put put.Memory = OutOfMemory

-- by that of a store
abbrev pub of_store : StoreError → Ending
of_store store.Failed = CannotWrite
of_store store.Memory = OutOfMemory

-- ---- the end
-- the end that an ending is, once all files are loaded
abbrev pub ended : Ending → End
ended (Decided verdict) = ends.End.Decided verdict
ended CannotWrite = ends.End.CannotWrite
ended CannotPut = ends.End.CannotPut
ended OutOfMemory = ends.End.OutOfMemory

-- the end of a command
abbrev pub end_of : CommandEnding → End
end_of (CannotRead load) = ends.End.CannotRead load.path.now
end_of (Ended ending) = ended ending

-- so a command ends on all words that ask for it
abbrev pub AskedEnds : Asked → Outside → Outside → End → Type 0
AskedEnds asked before after end = (words : List (List ℕ)) → AsksFor words (Some asked) → Reaches words end before after
