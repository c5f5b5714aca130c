-- How the run of a guest ends, and what is made of it.
use Rattle.std.specs.Prelude.{◌≡◌, ◌⊎◌, ℕ, ◌<◌, ◌≤◌, Bool, List, [], ◌∷◌, length, take, Option, Some, None, MatchOption, Result, Ok, Err, Vec}
use Rattle.std.specs.declared.alloc.Global.{Global}
use Rattle.command_line.specs.Options.{GuestOptions, arguments}
use Rattle.command_line.specs.Read.{analysis_in, guest_in}
use Rattle.command_line.specs.declared.guest_command.GuestCommand.{GuestCommand}
use Rattle.guest_machine.specs.Setup.{setup_refusal}
use Rattle.guest_machine.specs.Start.{start}
use Rattle.guest_machine.specs.declared.setup.SetupError.{SetupError}
use Rattle.guest_run.specs.declared.run.Ended.{Ended}
use Rattle.guest_kernel.specs.declared.channel.Channel.TheVariants as channel
use Rattle.guest_run.specs.Output.{Sinks, with_output}
use Rattle.guest_run.specs.Run.{recording}
use Rattle.guest_run.specs.ObservedRun.{ObservedRun}
use Rattle.guest_run.specs.RunEnds.{IsGivenUp, IsWhole, StopsAtPut}
use Rattle.host_io.specs.Files.{FilesState}
use Rattle.host_io.specs.Sink.{SinkState, appended}
use Rattle.host_io.specs.declared.files.StoreError.{StoreError}
use Rattle.host_io.specs.declared.files.StoreError.TheVariants.{Failed, Memory}
use Rattle.trace_model.specs.declared.event_kinds.Event.{Event}
use Rattle.aprof_top.specs.declared.ending.Ending.{Ending}
use Rattle.aprof_top.specs.declared.ending.Ending.TheVariants.{Decided, CannotWrite, CannotPut, OutOfMemory}
use Rattle.aprof_top.specs.declared.ending.Verdict.{Verdict}
use Rattle.aprof_top.specs.declared.ending.Verdict.TheVariants.{Done, TooLarge}
use Rattle.run_profile.specs.Contexts.{AreContextTotalsOf, IsPastNumbers}
use Rattle.run_profile.specs.Profile.{AreCountsOf, AreTotalsOf}
use Rattle.run_profile.specs.declared.totals.ContextTotals.{ContextTotals}
use Rattle.run_profile.specs.declared.totals.Counts.{Counts}
use Rattle.aprof_top.specs.declared.delivery.Store.{Store}
use Rattle.aprof_top.specs.declared.profiled_run.ProfiledRun.{ProfiledRun}
use Rattle.aprof_top.specs.declared.contexts_job.ContextsRun.{ContextsRun}
use Rattle.aprof_top.specs.declared.trace_job.TracedRun.{TracedRun}
use Rattle.cache_lines.specs.Shapes.{Dimensions}
use Rattle.cache_profile.specs.ReportText.{Reported}
use Rattle.elf_image.specs.Image.{Executable}
use Rattle.guest_words.specs.declared.endings.Finish.{Finish}
use Rattle.guest_words.specs.declared.limits.TheConstants.{TRACE_BYTES}
use Rattle.aprof_top.specs.CacheMisses.{misses_of}
use Rattle.stored_traces.specs.Entries.{entries_begun}
use Rattle.stored_traces.specs.declared.written.EventText.{EventText}
use Rattle.stored_traces.specs.Kept.{IsTooLong}
use Rattle.trace_file.specs.TraceText.{IsTextOf}
use Rattle.aprof_top.specs.Delivery.{DoesAll, FailsAtStats, FailsAtStore, FailsOnErr, FailsOnOut, FailsWithin, StoreFails, StopsShort}
use Rattle.aprof_top.specs.Loads.{Loaded}
use Rattle.aprof_top.specs.Outcome.{IsRun, Job, Outcome, job_of}
use Rattle.aprof_top.specs.Outside.{Outside, with_stores}
use Rattle.aprof_top.specs.Private.Preparing.{ArePrepared}
use Rattle.aprof_top.specs.Run.{observed_from}
use Rattle.aprof_top.specs.declared.guest_job.GuestFiles.{GuestFiles}
use Rattle.aprof_top.specs.declared.preparation.Prepared.{Prepared}
use Rattle.aprof_top.specs.Verdicts.{IsOfRun}

-- the ending that a command's result is
abbrev pub ending_by : Result Verdict Ending → Ending
ending_by (Ok verdict) = Decided verdict
ending_by (Err ending) = ending

-- The guest can't begin.
abbrev pub IsSetupRefused : Option SetupError → Type 0
IsSetupRefused None = ⊥
IsSetupRefused (Some why) = Unit {0}

-- How the run of an executable stops before its end: its guest can't begin, a put failed, or memory ran out.
abbrev pub RunStops : Option SetupError → ObservedRun → Sinks → Sinks → Ending → Type 0
RunStops setup run before after (Decided verdict) = (verdict ≡ TooLarge) × IsSetupRefused setup × (after ≡ before)
RunStops setup run before after CannotWrite = (setup ≡ None) × StopsAtPut channel.Out run.moves before after
RunStops setup run before after CannotPut = (setup ≡ None) × StopsAtPut channel.Err run.moves before after
RunStops setup run before after OutOfMemory = (after ≡ before) ⊎ ((setup ≡ None) × IsGivenUp run.moves before after)

-- How the run of an executable ends, by whether its guest can begin and by what is observed of its run.
abbrev pub ImageRuns : {W : Type 0} → (W → List Event → Type 0) → Option SetupError → ObservedRun → Sinks → W → Sinks → Result Ended Ending → Type 0
ImageRuns Stands setup run before observer after (Ok ended) = (setup ≡ None) × IsWhole Stands run before observer after ended
ImageRuns Stands setup run before observer after (Err e) = RunStops setup run before after e

-- the same of an executable with the words of its command and what its guest finds beside it, observed as far as its trace fits
abbrev pub GuestRuns : {W : Type 0} → (W → List Event → Type 0) → (List Event → Bool) → GuestOptions → Executable → GuestFiles → Sinks → W → Sinks → Result Ended Ending → Type 0
GuestRuns Stands fits options image files =
    ImageRuns Stands (setup_refusal image (arguments options))
    (observed_from fits options files.schedule image.entry (start image (arguments options) files.inputs files.stdin.items))

-- How the run of an executable ends of which something is made: it came to its end, all of its output was put, and this was made
-- of it; or it stops.
abbrev pub ImageIsRun : {A : Type 0} → (A → ObservedRun → Type 0) → Option SetupError → ObservedRun → Sinks → Sinks → Result A Ending → Type 0
ImageIsRun IsMade setup run before after (Ok made) = (setup ≡ None) × (after ≡ with_output run.moves before) × IsMade made run
ImageIsRun IsMade setup run before after (Err e) = RunStops setup run before after e

-- the same of an executable with the words of its command and what its guest finds beside it, observed as far as its trace fits
abbrev pub GuestIsRun : {A : Type 0} → (A → ObservedRun → Type 0) → (List Event → Bool) → GuestOptions → Executable → GuestFiles → Sinks → Sinks → Result A Ending → Type 0
GuestIsRun IsMade fits options image files =
    ImageIsRun IsMade (setup_refusal image (arguments options))
    (observed_from fits options files.schedule image.entry (start image (arguments options) files.inputs files.stdin.items))

-- What a keeper has of a run, what was counted of it, and how it ended.
pub record KeptGuest (K : Type 0) : Type 0 where
  pub kept : K
  pub counts : Counts
  pub ended : Ended

-- The keeper holds the past of a run, and these are its counts, by stamps up to the greatest, its recording and its end.
pub record IsKept {K D : Type 0} (Holds : K → List Event → List D → Type 0) (most : ℕ) (kept : KeptGuest K) (run : ObservedRun) : Type 0 where
  pub holds : Holds kept.kept run.past []
  pub counts : AreCountsOf most kept.counts run.past
  pub recorded : kept.ended.recording ≡ recording run.moves
  pub finish : kept.ended.finish ≡ run.finish

-- the run ended so
abbrev pub EndsAs : Finish → ObservedRun → Type 0
EndsAs finish run = finish ≡ run.finish

-- These are the totals of a run, by stamps up to the greatest, its recording and its end.
pub record IsProfiled (most : ℕ) (profiled : ProfiledRun) (run : ObservedRun) : Type 0 where
  pub totals : AreTotalsOf most profiled.totals run.past
  pub recorded : profiled.ended.recording ≡ recording run.moves
  pub finish : profiled.ended.finish ≡ run.finish

-- the text of the events of a past and the entries of the activations that began, unless the text is too long
abbrev pub AreTexts : Option EventText → List Event → Type 0
AreTexts None past = IsTooLong past
AreTexts (Some text) past = IsTextOf text.writer past × (text.entries.keys ≡ entries_begun past)

-- the text, unless it is too long to be stored
abbrev pub IsShortText : List ℕ → Option (Vec ℕ Global) → Type 0
IsShortText text found = MatchOption found (TRACE_BYTES < length text) (λ bytes. (bytes.items ≡ text) × (length bytes.items ≤ TRACE_BYTES))

-- These are the texts of a run's events, and its end.
pub record IsTraced (traced : TracedRun) (run : ObservedRun) : Type 0 where
  pub text : AreTexts traced.text run.past
  pub finish : traced.finish ≡ run.finish

-- this is the report of a run's cache misses
abbrev pub IsMissed : Dimensions → Executable → Reported → ObservedRun → Type 0
IsMissed shape image report run = report ≡ misses_of shape image run.finish run.past

-- the totals of the run with its contexts, unless they are more than can be numbered
abbrev pub HaveContexts : ℕ → Option ContextTotals → List Event → Type 0
HaveContexts most None past = IsPastNumbers past
HaveContexts most (Some totals) past = AreContextTotalsOf most totals past

-- These are the contexts of a run, by stamps up to the greatest, and its end.
pub record HasContexts (most : ℕ) (told : ContextsRun) (run : ObservedRun) : Type 0 where
  pub contexts_are : HaveContexts most told.contexts run.past
  pub finish : told.finish ≡ run.finish

-- the path and the bytes of a file to store
abbrev pub store_of : Store → List ℕ × List ℕ
store_of store = (store.path.now, store.bytes.items)

-- how stores end: all are done; or one fails, after those before it; or the first are done
abbrev pub StoresEnd : List (List ℕ × List ℕ) → FilesState → FilesState → Result Unit StoreError → Type 0
StoresEnd stores old new (Ok done) = new ≡ with_stores stores old
StoresEnd stores old new (Err Failed) = StoreFails stores old new
StoresEnd stores old new (Err Memory) = (count : ℕ) × (new ≡ with_stores (take count stores) old)

-- Files and the sink `err`.
pub record Desk : Type 0 where
  pub files : FilesState
  pub err : SinkState

abbrev pub desk : FilesState → SinkState → Desk
desk files err = record { files = files; err = err }

-- how the put of statistics ends
abbrev pub StatsEnd : List ℕ → SinkState → SinkState → Result Unit Ending → Type 0
StatsEnd stats old new (Ok done) = new ≡ appended old stats
StatsEnd stats old new (Err CannotPut) = FailsWithin stats old new
StatsEnd stats old new (Err OutOfMemory) = new ≡ old
StatsEnd stats old new _ = ⊥

-- All was stored, and the statistics were put so.
pub record AreStored (outcome : Outcome) (old new : Desk) (Puts : SinkState → SinkState → Type 0) : Type 0 where
  pub stored : new.files ≡ with_stores outcome.stores old.files
  pub stats : Puts old.err new.err

-- A store failed, or memory ran out, before the statistics.
pub record StopsAtStores (old new : Desk) (Stored : FilesState → FilesState → Type 0) : Type 0 where
  pub stored : Stored old.files new.files
  pub err : new.err ≡ old.err

-- how the stores of an outcome end, and the put of its statistics
abbrev pub RunIsStored : Outcome → Desk → Desk → Result Verdict Ending → Type 0
RunIsStored outcome old new (Ok verdict) = (outcome.verdict ≡ verdict) × AreStored outcome old new (λ before after. after ≡ appended before outcome.stats)
RunIsStored outcome old new (Err CannotWrite) = StopsAtStores old new (StoreFails outcome.stores)
RunIsStored outcome old new (Err CannotPut) = AreStored outcome old new (FailsWithin outcome.stats)
RunIsStored outcome old new (Err OutOfMemory) = StopsAtStores old new (λ before after. (count : ℕ) × (after ≡ with_stores (take count outcome.stores) before))
RunIsStored outcome old new _ = ⊥

-- how it ends for what was made of a run: so do the stores of that run's outcome, and the put of its statistics
abbrev pub IsDelivered : {A : Type 0} → (A → ObservedRun → Type 0) → (ObservedRun → Outcome) → A → Desk → Desk → Result Verdict Ending → Type 0
IsDelivered IsMade outcome_of made old new result = (run : ObservedRun) → IsMade made run → RunIsStored (outcome_of run) old new result

-- the same where nothing is put on `err`, whatever it has
abbrev pub IsStored : {A : Type 0} → (A → ObservedRun → Type 0) → (ObservedRun → Outcome) → A → FilesState → FilesState → Result Verdict Ending → Type 0
IsStored IsMade outcome_of made old new result =
    (run : ObservedRun) → IsMade made run → (err : SinkState) → RunIsStored (outcome_of run) (desk old err) (desk new err) result

-- One of these outcomes is handed out so.
pub record IsHandedOut (Is : Outcome → Type 0) (Delivered : Outcome → Type 0) : Type 0 where
  pub outcome : Outcome
  pub is : Is outcome
  pub delivered : Delivered outcome

-- it is that of a run that came to an end, or was given up
abbrev pub IsOfRunAnd : (Outcome → Type 0) → Outcome → Type 0
IsOfRunAnd Fails outcome = IsOfRun outcome.verdict × Fails outcome

-- how a command ends whose files were loaded, and whose outcome is one of these
abbrev pub HandsOut : (Outcome → Type 0) → Outside → Outside → Ending → Type 0
HandsOut Is before after (Decided verdict) = IsHandedOut Is (λ outcome. (outcome.verdict ≡ verdict) × DoesAll outcome before after)
HandsOut Is before after CannotWrite =
    IsHandedOut Is (IsOfRunAnd (λ outcome. FailsAtStore outcome before after ⊎ FailsOnOut outcome before after))
HandsOut Is before after CannotPut =
    IsHandedOut Is (IsOfRunAnd (λ outcome. FailsOnErr outcome before after ⊎ FailsAtStats outcome before after))
HandsOut Is before after OutOfMemory = (after ≡ before) ⊎ IsHandedOut Is (λ outcome. StopsShort outcome before after)

-- the job that a command asks for
abbrev pub job_in : GuestCommand → Job
job_in command = job_of (guest_in command.guest) command.output.now (analysis_in command.analysis)

-- how the run of a command's files ends
abbrev pub FilesRun : Job → Loaded → Outside → Outside → Ending → Type 0
FilesRun job loaded = HandsOut (IsRun job loaded)

-- how a command ends whose guest was prepared: so it does with all files that the guest was prepared of
abbrev pub JobRuns : Job → Prepared → Outside → Outside → Ending → Type 0
JobRuns job prepared before after ending = (loaded : Loaded) → ArePrepared loaded prepared → FilesRun job loaded before after ending

-- the outcome of a demo with this summary
abbrev pub summed : List ℕ → Outcome
summed out = record { verdict = Done; writes = (channel.Out, out) ∷ []; stores = []; stats = [] }
