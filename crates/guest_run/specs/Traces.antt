-- What holds of the trace of every run of the guest from its start.
use Rattle.std.specs.Prelude.{ℕ, Bool, ◌+◌, ◌<◌, ◌≤◌, ◌^◌, List, All}
use Rattle.std.specs.List.{AllByRecursion}
use Rattle.guest_words.specs.declared.endings.Finish.{Finish}
use Rattle.guest_words.specs.declared.endings.Finish.TheVariants.{Exit, Fault, Schedule}
use Rattle.guest_words.specs.declared.limits.TheConstants.{LAST_TID, RUN_STEPS}
use Rattle.trace_model.specs.declared.event_kinds.Event.{Event}
use Rattle.trace_model.specs.declared.event_kinds.Event.TheVariants.{Step, Read, Write, Fill, Call, Ret, Start, End}
use Rattle.trace_model.specs.Cut.{past_after}
use Rattle.trace_model.specs.Parts.{IsShort, parts}
use Rattle.trace_model.specs.WellFormed.{AreWords, IsLight, IsWellFormed}
use Rattle.thread_sched.specs.ScheduleText.{IsEntry}
use Rattle.thread_sched.specs.declared.entry.Entry.{Entry}
use Rattle.thread_sched.specs.TurnRule.{SchedulerState}
use Rattle.elf_image.specs.Image.{Executable}
use Rattle.guest_kernel.specs.Inputs.{Input}
use Rattle.guest_machine.specs.Laws.{IsAddress}
use Rattle.guest_machine.specs.Start.{start}
use Rattle.guest_run.specs.Laws.{scheduler}
use Rattle.guest_run.specs.Machine.{guest}
use Rattle.guest_run.specs.Run.{WrittenRun, events_of, recording, run}
use Rattle.guest_run.specs.ObservedRun.{ObservedRun, first_past, observed_run}

-- the whole trace of a run, cut before each step, has short parts alone, and so has what is observed of it
pub record AreShort (fits : List Event → Bool) (past : List Event) (whole : WrittenRun) : Type 0 where
  pub all : All IsShort (parts (past_after past (events_of whole.moves)))
  pub observed_part : All IsShort (parts (observed_run fits past whole).past)

-- So it is of every run from its start: the first part is the start of thread 1, and each other one is of one move.
abbrev pub EveryRunIsOfShortParts : Type 0
EveryRunIsOfShortParts =
    (image : Executable) (arguments : List (List ℕ)) (inputs : List Input) (stdin : List ℕ)
    (fits : List Event → Bool) (turns : SchedulerState) (budget : ℕ)
    → AreShort fits (first_past image.entry) (run guest turns budget (start image arguments inputs stdin))

-- What is observed of a run is light, whatever the image, the scheduler and the test of its observer.
abbrev pub EveryRunIsLight : Type 0
EveryRunIsLight =
    (image : Executable) (arguments : List (List ℕ)) (inputs : List Input) (stdin : List ℕ)
    (fits : List Event → Bool) (turns : SchedulerState) (budget : ℕ) → budget ≤ RUN_STEPS
    → IsLight (observed_run fits (first_past image.entry) (run guest turns budget (start image arguments inputs stdin))).past

-- the whole trace of a run is well formed, and so is what is observed of it
pub record AreWellFormed (fits : List Event → Bool) (past : List Event) (whole : WrittenRun) : Type 0 where
  pub all : IsWellFormed (past_after past (events_of whole.moves))
  pub observed_part : IsWellFormed (observed_run fits past whole).past

-- So each event of a run may come where it does: new threads have new numbers, and all other events are of live threads.
abbrev pub EveryRunIsWellFormed : Type 0
EveryRunIsWellFormed =
    (image : Executable) (arguments : List (List ℕ)) (inputs : List Input) (stdin : List ℕ)
    (fits : List Event → Bool) (turns : SchedulerState) (budget : ℕ) → budget ≤ RUN_STEPS
    → AreWellFormed fits (first_past image.entry) (run guest turns budget (start image arguments inputs stdin))

-- each turn that is recorded of a run is an entry of a schedule, and so is each of what is observed of it
pub record AreEntries (fits : List Event → Bool) (past : List Event) (whole : WrittenRun) : Type 0 where
  pub all : AllByRecursion IsEntry (recording whole.moves)
  pub observed_part : AllByRecursion IsEntry (recording (observed_run fits past whole).moves)

-- So the recording of a run from its start is a schedule, whatever the image, the scheduler and the test of its observer.
abbrev pub EveryRunRecordsEntries : Type 0
EveryRunRecordsEntries =
    (image : Executable) (arguments : List (List ℕ)) (inputs : List Input) (stdin : List ℕ)
    (fits : List Event → Bool) (turns : SchedulerState) (budget : ℕ) → budget ≤ RUN_STEPS
    → AreEntries fits (first_past image.entry) (run guest turns budget (start image arguments inputs stdin))

-- ---- numbers
-- a thread's number
abbrev pub IsThread : ℕ → Type 0
IsThread tid = (1 ≤ tid) × (tid ≤ LAST_TID)

-- The numbers that an event tells are those of threads, of words of memory and of addresses.
abbrev pub IsEventInRange : Event → Type 0
IsEventInRange (Step tid) = IsThread tid
IsEventInRange (Read tid first count) = IsThread tid × AreWords first count
IsEventInRange (Write tid first count) = IsThread tid × AreWords first count
IsEventInRange (Fill first count) = AreWords first count
IsEventInRange (Call tid entry back) = IsThread tid × IsAddress entry × IsAddress back
IsEventInRange (Ret tid target) = IsThread tid × IsAddress target
IsEventInRange (Start tid entry) = IsThread tid × IsAddress entry
IsEventInRange (End tid) = IsThread tid

-- An exit tells the number of a byte, a fault a thread and an address, and a schedule a line that is counted from 1, among at
-- most as many as this.
abbrev pub IsEndInRange : ℕ → Finish → Type 0
IsEndInRange lines (Exit status) = status < 2 ^ 8
IsEndInRange lines (Fault kind tid at) = IsThread tid × IsAddress at
IsEndInRange lines (Schedule line) = (1 ≤ line) × (line ≤ lines)
IsEndInRange lines finish = Unit {0}

-- So are those of all events that are observed of a run, and of its end.
pub record TellsInRange (lines : ℕ) (run : ObservedRun) : Type 0 where
  pub events : AllByRecursion IsEventInRange run.past
  pub finish : IsEndInRange lines run.finish

-- So it is of what is observed of every run of an image whose entry is an address, under a schedule from its first line on.
abbrev pub EveryRunTellsInRange : Type 0
EveryRunTellsInRange =
    (image : Executable) (arguments : List (List ℕ)) (inputs : List Input) (stdin : List ℕ)
    (fits : List Event → Bool) (quantum : ℕ) (schedule : List Entry) (budget : ℕ) → IsAddress image.entry
    → TellsInRange (1 + budget) (observed_run fits (first_past image.entry) (run guest (scheduler quantum schedule) budget (start image arguments inputs stdin)))
