-- What the written product answers to a command, over the files that it loads.
use Rattle.std.specs.Prelude.{◌≡◌, ◌≢◌, ◌⊎◌, ℕ, Bool, true, codes, nat_lt, List, [], ◌∷◌, ◌++◌, length, Option, Some, None, if◌then◌else◌}
use Rattle.command_line.specs.Options.{Analysis, Asked, GuestOptions, ReplayOptions, RunOptions, arguments}
use Rattle.command_line.specs.Options.Analysis.{Run, Trace, Cache, Contexts}
use Rattle.command_line.specs.Options.Asked.{Guest, Replay, Demo}
use Rattle.command_line.specs.declared.guest_options.TheConstants.{DEFAULT_BUDGET, DEFAULT_QUANTUM}
use Rattle.elf_image.specs.declared.error.ElfError.{ElfError}
use Rattle.elf_image.specs.Image.{Executable}
use Rattle.elf_image.specs.Reading.{image_of}
use Rattle.elf_image.specs.Tests.{first_refusal}
use Rattle.guest_kernel.specs.declared.channel.Channel.{Channel}
use Rattle.guest_kernel.specs.declared.channel.Channel.TheVariants as channel
use Rattle.guest_machine.specs.declared.setup.SetupError.{SetupError}
use Rattle.guest_machine.specs.Setup.{setup_refusal}
use Rattle.guest_run.specs.ObservedRun.{ObservedRun}
use Rattle.guest_run.specs.Run.{Move, recording, sent}
use Rattle.guest_words.specs.declared.endings.Finish.{Finish}
use Rattle.guest_words.specs.declared.endings.Finish.TheVariants.{Deep}
use Rattle.trace_file.specs.Reading.{IsTraceRefused}
use Rattle.trace_file.specs.TraceText.{IsTrace, Names}
use Rattle.trace_file.specs.declared.errors.TraceError.{TraceError}
use Rattle.trace_file.specs.declared.errors.TraceError.TheVariants.{Memory}
use Rattle.trace_model.specs.declared.event_kinds.Event.{Event}
use Rattle.trace_model.specs.Cut.{cut}
use Rattle.trace_model.specs.Depth.{is_within}
use Rattle.profile_report.specs.ReportText.{report_text}
use Rattle.stamp_table.specs.Counting.{renumberings}
use Rattle.stamps.specs.declared.width.StampBits.{StampBits}
use Rattle.stamps.specs.declared.width.StampBits.TheVariants.{B32}
use Rattle.stamps.specs.Widths.{greatest}
use Rattle.thread_sched.specs.declared.entry.Entry.{Entry}
use Rattle.thread_sched.specs.ScheduleText as recordings
use Rattle.aprof_top.specs.declared.ending.Verdict.{Verdict}
use Rattle.aprof_top.specs.declared.ending.Verdict.TheVariants.{BadCommand, BadImage, BadSchedule, BadTrace, TooLarge, Ran, ResultTooLarge, Done}
use Rattle.cache_profile.specs.ReportText.{cache_text}
use Rattle.aprof_top.specs.CacheMisses.{misses_of}
use Rattle.aprof_top.specs.ContextReports.{can_be_numbered, contexts_report}
use Rattle.aprof_top.specs.Loads.{Load, Loaded, loaded_of, loads_of, passes_limit}
use Rattle.aprof_top.specs.Report.{report_of}
use Rattle.aprof_top.specs.Run.{observed_of, run_of}
use Rattle.demo_guest.specs.Image.{IsDemoFile}
use Rattle.aprof_top.specs.Summary.{summary_text}
use Rattle.aprof_top.specs.Texts.{renumberings_text}
use Rattle.aprof_top.specs.Traces.{is_storable, trace_of}
use Rattle.aprof_top.specs.Schedules.{Reading, Reads}
use Rattle.aprof_top.specs.Schedules.Reading.{Turns, BadLine}

-- ---- the output
-- bytes that are put at once, and their channel
abbrev pub Write : Type 0
Write = Channel × List ℕ

-- what one move writes, and then these
abbrev pub with_write : Option Write → List Write → List Write
with_write None writes = writes
with_write (Some write) writes = write ∷ writes

-- what moves write, in order
abbrev pub writes_of : List Move → List Write
writes_of [] = []
writes_of (move ∷ moves) = with_write move.out (writes_of moves)

-- the bytes that are put on a channel
abbrev pub put_on : Channel → List Write → List ℕ
put_on on [] = []
put_on on (write ∷ writes) = sent on (Some write) ++ put_on on writes

-- What the written product answers.
pub record Outcome : Type 0 where
  -- it has the status and the last text
  pub verdict : Verdict
  -- the output, in order: what is put at once, and where
  pub writes : List Write
  -- the files that are stored, in order: the path and the bytes of each
  pub stores : List (List ℕ × List ℕ)
  -- what is put on `err` then
  pub stats : List ℕ

-- its output on each channel
abbrev pub out_of : Outcome → List ℕ
out_of outcome = put_on channel.Out outcome.writes

abbrev pub err_of : Outcome → List ℕ
err_of outcome = put_on channel.Err outcome.writes

-- nothing is put or stored but the last text
abbrev pub refusal : Verdict → Outcome
refusal verdict = record { verdict = verdict; writes = []; stores = []; stats = [] }

-- ---- the run
-- the recording, where a path is given for it
abbrev pub recording_stores : Option (List ℕ) → List Entry → List (List ℕ × List ℕ)
recording_stores None turns = []
recording_stores (Some path) turns = (path, recordings.schedule_text turns) ∷ []

-- the files of a run that ended so, by its trace and its turns: its recording where it is asked for, and then its report at this
-- path
abbrev pub run_stores : List ℕ → RunOptions → Executable → Finish → List Event → List Entry → List (List ℕ × List ℕ)
run_stores report options image finish past turns =
    recording_stores options.recording turns ++ (report, report_text (report_of image.names finish past)) ∷ []

-- how often stamps were renumbered, where that is asked for
abbrev pub stats_of : Bool → ℕ → List ℕ
stats_of asked count = if asked then renumberings_text count else []

-- What is made of a run beside the guest's output.
pub record Left : Type 0 where
  -- the files that are stored, in order: the path and the bytes of each
  pub stores : List (List ℕ × List ℕ)
  -- what is put on `err` then
  pub stats : List ℕ

-- one file is stored
abbrev pub one_file : List ℕ → List ℕ → Left
one_file path bytes = record { stores = (path, bytes) ∷ []; stats = [] }

-- what an analysis makes of a run, with its result at this path; none where that is too large
abbrev pub left_of : List ℕ → Analysis → Executable → ObservedRun → Option Left
left_of path (Run options) image run = Some (record {
  stores = run_stores path options image run.finish run.past (recording run.moves);
  stats = stats_of options.stats (renumberings (greatest options.bits) run.past);
})
left_of path Trace image run = if is_storable (trace_of image run) then Some (one_file path (trace_of image run)) else None
left_of path (Cache shape) image run = Some (one_file path (cache_text (misses_of shape image run.finish run.past)))
left_of path (Contexts bits) image run = if can_be_numbered run.past then Some (one_file path (contexts_report image run)) else None

-- what a run leaves: the guest's output, and what is made of it
abbrev pub run_outcome : ObservedRun → Option Left → Outcome
run_outcome run (Some left) = record {
  verdict = Ran run.finish;
  writes = writes_of run.moves;
  stores = left.stores;
  stats = left.stats;
}
run_outcome run None = record {
  verdict = ResultTooLarge;
  writes = writes_of run.moves;
  stores = [];
  stats = [];
}

-- the same, by the analysis
abbrev pub analysed : List ℕ → Analysis → Executable → ObservedRun → Outcome
analysed path analysis image run = run_outcome run (left_of path analysis image run)

-- A command that runs a guest: how it is run, and what its run leaves with these files, under these turns.
pub record Job : Type 0 where
  pub guest : GuestOptions
  pub leaves : Loaded → List Entry → Outcome

-- how far an analysis follows a run: as far as its stamps tell the open calls apart, those of `trace` being the widest; misses of
-- a cache need none
abbrev pub follows_to : Analysis → List Event → Bool
follows_to (Run options) = is_within (greatest options.bits)
follows_to Trace = is_within (greatest B32)
follows_to (Cache shape) = λ past. true
follows_to (Contexts bits) = is_within (greatest bits)

-- the command that makes this of the run of this guest
abbrev pub job_of : GuestOptions → List ℕ → Analysis → Job
job_of guest path analysis = record {
  guest = guest;
  leaves = λ loaded turns. analysed path analysis (image_of loaded.image) (observed_of (follows_to analysis) guest loaded turns);
}

-- a guest that can begin is run
abbrev pub begun_outcome : Job → Loaded → List Entry → Option SetupError → Outcome
begun_outcome job loaded turns (Some why) = refusal TooLarge
begun_outcome job loaded turns None = job.leaves loaded turns

-- under the schedule that was read
abbrev pub scheduled_outcome : Job → Loaded → Reading → Outcome
scheduled_outcome job loaded (BadLine line) = refusal (BadSchedule line)
scheduled_outcome job loaded (Turns turns) = begun_outcome job loaded turns (setup_refusal (image_of loaded.image) (arguments job.guest))

-- The schedule reads so, and the outcome is that of the guest's run under it, or of its refusal.
pub record IsScheduled (job : Job) (loaded : Loaded) (outcome : Outcome) : Type 0 where
  pub reading : Reading
  pub read : Reads loaded.schedule reading
  pub answered : outcome ≡ scheduled_outcome job loaded reading

-- an image is refused by the first test that it fails
abbrev pub ByImage : Job → Loaded → Outcome → Option ElfError → Type 0
ByImage job loaded outcome (Some e) = outcome ≡ refusal (BadImage e)
ByImage job loaded outcome None = IsScheduled job loaded outcome

-- the outcome of a run of these files
abbrev pub IsRun : Job → Loaded → Outcome → Type 0
IsRun job loaded outcome = ByImage job loaded outcome (first_refusal loaded.image)

-- ---- the report of a stored trace
-- the trace as long as stamps of the width tell its open activations apart
abbrev pub told_apart : StampBits → List Event → List Event
told_apart bits past = cut (is_within (greatest bits)) past

-- how it ended: as the trace says, where they do so to its end
abbrev pub told_finish : StampBits → List Event → Finish → Finish
told_finish bits past finish = if is_within (greatest bits) past then finish else Deep

-- the text of its report, with these names
abbrev pub replay_text : StampBits → Names → Finish → List Event → List ℕ
replay_text bits names finish past = report_text (report_of names (told_finish bits past finish) (told_apart bits past))

-- what a trace leaves: its report, with the names that it gives
abbrev pub replay_outcome : ReplayOptions → Names → Finish → List Event → Outcome
replay_outcome options names finish past = record {
  verdict = Done;
  writes = [];
  stores = (options.report, replay_text options.bits names finish past) ∷ [];
  stats = stats_of options.stats (renumberings (greatest options.bits) (told_apart options.bits past));
}

-- The bytes are the text of a trace, and the outcome is what that leaves.
pub record IsOfTrace (options : ReplayOptions) (bytes : List ℕ) (outcome : Outcome) : Type 0 where
  pub past : List Event
  pub names : Names
  pub finish : Finish
  pub trace : IsTrace bytes past names finish
  pub answered : outcome ≡ replay_outcome options names finish past

-- The bytes are refused, for another cause than out of memory.
pub record IsOfNoTrace (bytes : List ℕ) (outcome : Outcome) : Type 0 where
  pub past : List Event
  pub why : TraceError
  pub refused : IsTraceRefused bytes past why
  pub no_memory : why ≢ Memory
  pub answered : outcome ≡ refusal (BadTrace why)

-- the outcome of the file that was loaded
abbrev pub IsReplay : ReplayOptions → List ℕ → Outcome → Type 0
IsReplay options bytes outcome = IsOfTrace options bytes outcome ⊎ IsOfNoTrace bytes outcome

-- ---- the demo
-- what the demo is run with: its one argument is its name, and all else is as without options
abbrev pub demo_options : GuestOptions
demo_options = record {
  stdin = None;
  schedule = None;
  quantum = DEFAULT_QUANTUM;
  budget = DEFAULT_BUDGET;
  image = codes "demo";
  words = [];
}

-- its executable, and no other file
abbrev pub demo_files : List ℕ → Loaded
demo_files file = record { image = file; inputs = []; stdin = []; schedule = []; trace = [] }

-- its summary is put, and nothing is stored
abbrev pub demo_outcome : ℕ → Executable → ObservedRun → Outcome
demo_outcome number image run = record {
  verdict = Done;
  writes = (channel.Out, summary_text number (report_of image.names run.finish run.past)) ∷ [];
  stores = [];
  stats = [];
}

-- The outcome is the summary of the run of the demo's executable.
pub record IsDemo (number : ℕ) (outcome : Outcome) : Type 0 where
  pub file : List ℕ
  pub is_demo : IsDemoFile number file
  pub answered : outcome ≡ demo_outcome number (image_of file) (run_of B32 demo_options (demo_files file) [])

-- ---- the whole
-- the outcome of a command over its files
abbrev pub IsAnswer : Asked → Loaded → Outcome → Type 0
IsAnswer (Guest guest path analysis) loaded outcome = IsRun (job_of guest path analysis) loaded outcome
IsAnswer (Replay options) loaded outcome = IsReplay options loaded.trace outcome
IsAnswer (Demo number) loaded outcome = IsDemo number outcome

-- Where the loads of a command stand: a limit is passed, or more files are to be loaded, or all are there.
pub data Stage : Type 0 where
  PastLimit : Stage
  Loading : Stage
  Complete : Stage

-- by the bytes of the files that were loaded, from the first on
abbrev pub stage : List Load → List (List ℕ) → Stage
stage loads files =
    if passes_limit loads files then PastLimit
    else if nat_lt (length files) (length loads) then Loading
    else Complete

-- the outcome, by where the loads stand, and by what it is once all files are there
abbrev pub Follows : (Outcome → Type 0) → Outcome → Stage → Type 0
Follows Is outcome PastLimit = outcome ≡ refusal TooLarge
Follows Is outcome Loading = ⊥
Follows Is outcome Complete = Is outcome

-- The outcome of what the words ask for, or of their refusal, over the bytes of the files that were loaded.
abbrev pub IsOutcome : Option Asked → List (List ℕ) → Outcome → Type 0
IsOutcome None files outcome = outcome ≡ refusal BadCommand
IsOutcome (Some asked) files outcome = Follows (IsAnswer asked (loaded_of (loads_of asked) files)) outcome (stage (loads_of asked) files)

-- these files decide nothing yet
abbrev pub IsUndecided : Option Asked → List (List ℕ) → Type 0
IsUndecided None files = ⊥
IsUndecided (Some asked) files = stage (loads_of asked) files ≡ Loading
