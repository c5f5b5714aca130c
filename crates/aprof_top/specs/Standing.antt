-- What stands outside after a call, sentence by sentence.
use Rattle.std.specs.Prelude.{◌≡◌, ◌⊎◌, ◌<◌, ℕ, List, ◌++◌, ◌∷◌, [], length, take, Option, Some, None, IfSome, MatchOption, option_map, slice_get}
use Rattle.std.specs.Io.KnownBytes.{append_known}
use Rattle.command_line.specs.Options.{GuestOptions, RunOptions}
use Rattle.command_line.specs.Options.Analysis.{Run}
use Rattle.command_line.specs.Options.Asked.{Guest}
use Rattle.host_io.specs.Faults.{Rose}
use Rattle.host_io.specs.Files.{FailsAt, FilesState, Holds, with_file, with_path}
use Rattle.host_io.specs.Sink.{FailsToAppend, SinkState, appended}
use Rattle.aprof_top.specs.Answers.{EndsBy, IsWritten}
use Rattle.aprof_top.specs.Ends.{End, end_status, end_text}
use Rattle.aprof_top.specs.Ends.End.{CannotPut, CannotRead, CannotWrite, Decided, OutOfMemory}
use Rattle.aprof_top.specs.Found.{Decision, Found, paths_of}
use Rattle.aprof_top.specs.Outcome.{IsUndecided, Outcome, err_of, out_of}
use Rattle.aprof_top.specs.Outside.{Outside, with_stores}
use Rattle.aprof_top.specs.Texts.{cannot_read_text, cannot_write_text, out_of_memory_text}
use Rattle.aprof_top.specs.Verdicts.{IsOfRun, verdict_status, verdict_text}

-- ---- what a sink got in the call, as far as it tells its bytes
-- a first part of these bytes
abbrev pub GotFirst : List ℕ → SinkState → SinkState → Type 0
GotFirst bytes old new = (count : ℕ) × (new.bytes ≡ append_known old.bytes (take count bytes))

-- A first part of these bytes, and then a first part of this text.
pub record GotFirstThen (bytes text : List ℕ) (old new : SinkState) : Type 0 where
  pub count : ℕ
  pub text_count : ℕ
  pub gained : new.bytes ≡ append_known old.bytes (take count bytes ++ take text_count text)

-- all of these bytes, and then more
abbrev pub GotAllAndMore : List ℕ → SinkState → SinkState → Type 0
GotAllAndMore bytes old new = (more : List ℕ) × (new.bytes ≡ append_known old.bytes (bytes ++ more))

-- All of these bytes, and then a first part of this text.
pub record GotAllThen (bytes text : List ℕ) (old new : SinkState) : Type 0 where
  pub count : ℕ
  pub gained : new.bytes ≡ append_known old.bytes (bytes ++ take count text)

-- all of this text at its end
abbrev pub EndsWith : List ℕ → SinkState → SinkState → Type 0
EndsWith text old new = (front : List ℕ) × (new.bytes ≡ append_known old.bytes (front ++ text))

-- Both sinks got all of the output.
pub record GotOutput (outcome : Outcome) (before after : Outside) : Type 0 where
  pub out : after.out.bytes ≡ append_known before.out.bytes (out_of outcome)
  pub err : GotAllAndMore (err_of outcome) before.err after.err

-- ---- what the files hold, as far as they are told
-- what they held, with the first of these stores done
abbrev pub HaveFirst : List (List ℕ × List ℕ) → FilesState → FilesState → Type 0
HaveFirst stores old new = (count : ℕ) × (new.contents ≡ (with_stores (take count stores) old).contents)

-- The same, but for the path of the next store, which may hold anything.
pub record HaveFirstBut (stores : List (List ℕ × List ℕ)) (old new : FilesState) : Type 0 where
  pub count : ℕ
  pub store : List ℕ × List ℕ
  pub next : slice_get stores count ≡ Some store
  pub left : Option (List ℕ)
  pub contents : new.contents ≡ with_file store.0 left (with_stores (take count stores) old).contents

-- the file at this path is as it was
abbrev pub IsUntouched : List ℕ → FilesState → FilesState → Type 0
IsUntouched path old new = IfSome old.contents (λ files. IfSome new.contents (λ now. now path ≡ files path))

-- The list of failed paths is told, and gained this path in the call.
pub record GainedPath (path : List ℕ) (old new : FilesState) : Type 0 where
  pub earlier : List (List ℕ)
  pub told : old.failed_paths ≡ Some earlier
  pub gained : new.failed_paths ≡ Some (earlier ++ path ∷ [])

-- the call failed at the next store: its path may hold anything, and a told list of failed paths gained it
abbrev pub FailedAtStore : List (List ℕ × List ℕ) → FilesState → FilesState → Type 0
FailedAtStore stores old new = (first : HaveFirstBut stores old new) × (new.failed_paths ≡ with_path first.store.0 old.failed_paths)

-- ---- what a call had found and decided when it ended
-- the decision whose outcome it handed out, whole or in part
abbrev pub decision_of : {words : List (List ℕ)} {status : ℕ} {before after : Outside} (end : End) → EndsBy words end status before after → Option (Decision words before.files after.files)
decision_of (Decided verdict) ends = Some ends.reached.0
decision_of (CannotRead path) ends = None
decision_of CannotWrite ends = Some ends.reached.decision
decision_of CannotPut ends = Some ends.reached.decision
decision_of OutOfMemory ends = ends.reached.decision

-- what it had found for that decision, or before a load failed
abbrev pub found_of : {words : List (List ℕ)} {status : ℕ} {before after : Outside} (end : End) → EndsBy words end status before after → Option (Found words before.files after.files)
found_of (CannotRead path) ends = Some ends.reached.found
found_of end ends = option_map (λ decision. decision.found) (decision_of end ends)

-- ---- what a call leaves that was cut off
-- A first part of the outcome, and the last text or a first part of it.
pub record LeavesPart (outcome : Outcome) (text : List ℕ) (before after : Outside) : Type 0 where
  pub out : GotFirst (out_of outcome) before.out after.out
  pub err : GotFirstThen (err_of outcome ++ outcome.stats) text before.err after.err
  pub files : HaveFirst outcome.stores before.files after.files ⊎ HaveFirstBut outcome.stores before.files after.files
  -- nothing was stored before all of the output came
  pub output_first : GotOutput outcome before after ⊎ (after.files.contents ≡ before.files.contents)

-- The last text or a first part of it, and nothing else.
pub record LeavesText (text : List ℕ) (before after : Outside) : Type 0 where
  pub out : after.out ≡ before.out
  pub err : GotFirst text before.err after.err
  pub files : after.files.contents ≡ before.files.contents

-- Statistics were asked for and their put failed, and all else was put and stored.
pub record LacksStatistics (outcome : Outcome) (before after : Outside) : Type 0 where
  pub asked : 0 < length outcome.stats
  pub failed : Rose before.err.faults after.err.faults
  pub output : GotOutput outcome before after
  pub files : after.files.contents ≡ (with_stores outcome.stores before.files).contents

-- No load, no store and no put failed, but perhaps the put of this text at the end.
pub record IsCalm (text : List ℕ) (before after : Outside) : Type 0 where
  pub files : after.files.faults ≡ before.files.faults
  pub out : after.out.faults ≡ before.out.faults
  pub err : (after.err.faults ≡ before.err.faults) ⊎ ((front : List ℕ) × FailsToAppend text (appended before.err front) after.err)

-- After status 2: the load of the next path failed, and nothing came but the last text or a first part of it.
pub record StandsUnread {words : List (List ℕ)} {status : ℕ} {before after : Outside} (end : End) (ends : EndsBy words end status before after) : Type 0 where
  pub path : List ℕ
  pub end_is : end ≡ CannotRead path
  pub found : Found words before.files after.files
  pub is_of_end : found_of end ends ≡ Some found
  pub undecided : IsUndecided found.asked found.files
  pub next : slice_get (paths_of found.asked) (length found.files) ≡ Some path
  pub failed : FailsAt path before.files after.files
  pub leaves : LeavesText (cannot_read_text path) before after

-- After status 4.
pub record StandsAfterFault {words : List (List ℕ)} {status : ℕ} {before after : Outside} (end : End) (ends : EndsBy words end status before after) : Type 0 where
  pub end_is : (end ≡ CannotWrite) ⊎ (end ≡ CannotPut)
  pub decision : Decision words before.files after.files
  pub is_of_end : decision_of end ends ≡ Some decision
  -- no refusal of the words, the image, the schedule, the trace or a length applied
  pub ran : IsOfRun decision.outcome.verdict
  pub part : LeavesPart decision.outcome cannot_write_text before after
  -- a put failed, or a store did
  pub fault :
      (Rose before.out.faults after.out.faults ⊎ Rose before.err.faults after.err.faults)
      ⊎ (Rose before.files.faults after.files.faults × FailedAtStore decision.outcome.stores before.files after.files)
  -- a list of failed paths gained no path but that of a store
  pub paths : (after.files.failed_paths ≡ before.files.failed_paths) ⊎ FailedAtStore decision.outcome.stores before.files after.files
  -- where it gained one, all of the output had come
  pub output : (path : List ℕ) → GainedPath path before.files after.files → GotOutput decision.outcome before after
  -- where it gained the recording's path, which is not the report's, the report's file is as it was
  pub recording_failed : (guest : GuestOptions) (report : List ℕ) (options : RunOptions) (path : List ℕ)
      → decision.found.asked ≡ Some (Guest guest report (Run options)) → options.recording ≡ Some path
      → (path ≡ report → ⊥) → GainedPath path before.files after.files → IsUntouched report before.files after.files
  -- where it gained the report's path, which is not the recording's, the recording was stored
  pub report_failed : (guest : GuestOptions) (report : List ℕ) (options : RunOptions) (path : List ℕ)
      → decision.found.asked ≡ Some (Guest guest report (Run options)) → options.recording ≡ Some path
      → (path ≡ report → ⊥) → GainedPath report before.files after.files
      → (bytes : List ℕ) × (slice_get decision.outcome.stores 0 ≡ Some (path, bytes)) × Holds after.files.contents path bytes
  -- where no store failed, nothing was stored, or the statistics alone are missing
  pub no_store_failed : (Rose before.files.faults after.files.faults → ⊥)
      → (after.files.contents ≡ before.files.contents) ⊎ LacksStatistics decision.outcome before after

-- After status 10.
pub record StandsAfterMemory {words : List (List ℕ)} {status : ℕ} {before after : Outside} (end : End) (ends : EndsBy words end status before after) : Type 0 where
  -- a part of what was decided, or where nothing was, the last text alone
  pub leaves : MatchOption (decision_of end ends) (LeavesText out_of_memory_text before after) (λ decision. LeavesPart decision.outcome out_of_memory_text before after)
  -- nothing failed but the put of the last text, or the last text of another end could not be allocated
  pub calm : IsCalm out_of_memory_text before after ⊎ ((end ≡ OutOfMemory → ⊥) × (0 < length (end_text end)))

-- After a status of the written product, which is that of the outcome's verdict.
pub record StandsAfterAll {words : List (List ℕ)} {status : ℕ} {before after : Outside} (end : End) (ends : EndsBy words end status before after) : Type 0 where
  pub decision : Decision words before.files after.files
  pub is_of_end : decision_of end ends ≡ Some decision
  pub end_is : end ≡ Decided decision.outcome.verdict
  pub status_is : status ≡ verdict_status decision.outcome.verdict
  pub out : after.out.bytes ≡ append_known before.out.bytes (out_of decision.outcome)
  pub err : GotAllThen (err_of decision.outcome ++ decision.outcome.stats) (verdict_text decision.outcome.verdict) before.err after.err
  pub files : after.files.contents ≡ (with_stores decision.outcome.stores before.files).contents

-- The last text came whole: it is that of this end.
pub record IsTold (end : End) (status : ℕ) (before after : Outside) : Type 0 where
  pub status_is : status ≡ end_status end
  pub not_silent : end ≡ CannotPut → ⊥
  pub text : EndsWith (end_text end) before.err after.err

-- What stands after a call with this status.
pub record Stands (words : List (List ℕ)) (status : ℕ) (before after : Outside) : Type 0 where
  -- how the call ended: all the rest speaks of this end, and of what was found and decided by then
  pub end : End
  pub ends : EndsBy words end status before after
  pub all : IsWritten status → StandsAfterAll end ends
  pub unread : status ≡ 2 → StandsUnread end ends
  pub fault : status ≡ 4 → StandsAfterFault end ends
  pub memory : status ≡ 10 → StandsAfterMemory end ends
  -- at every status but 10 the last text stands whole at the end of `err`, where no put on it failed
  pub told : (status ≡ 10 → ⊥) → (Rose before.err.faults after.err.faults → ⊥) → IsTold end status before after
