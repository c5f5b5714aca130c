-- Laws on the outcomes of commands.
use Rattle.std.specs.Prelude.{◌≡◌, ◌≤◌, ℕ, List, [], ◌∷◌, ◌++◌, length, take, slice_get, Option, Some}
use Rattle.command_line.specs.Options.{Asked, AsksFor, GuestOptions, ReplayOptions, RunOptions}
use Rattle.command_line.specs.Options.Analysis.{Run, Trace, Contexts}
use Rattle.command_line.specs.Options.Asked.{Guest, Replay}
use Rattle.guest_run.specs.Laws.{IsNoMismatch, TurnsHaveMoves}
use Rattle.guest_run.specs.ObservedRun.{ObservedRun}
use Rattle.guest_run.specs.Run.{recording}
use Rattle.guest_words.specs.declared.limits.TheConstants.{RUN_STEPS}
use Rattle.guest_words.specs.declared.endings.Finish.{Finish}
use Rattle.aprof_top.specs.declared.ending.Verdict.TheVariants.{Ran, Done}
use Rattle.aprof_top.specs.Limits.{file_limit}
use Rattle.stamps.specs.declared.width.StampBits.{StampBits}
use Rattle.thread_sched.specs.declared.entry.Entry.{Entry}
use Rattle.trace_model.specs.Profile.{steps}
use Rattle.aprof_top.specs.Loads.{Loaded, loads_but_schedule}
use Rattle.aprof_top.specs.Outcome.{IsOutcome, IsUndecided, Outcome}
use Rattle.aprof_top.specs.Run.{run_of, whole_run_of}

-- what is asked and the bytes of the files decide the outcome: one verdict, with the same output and the same files to store
abbrev pub OneOutcome : Type 0
OneOutcome = (asked : Option Asked) (files : List (List ℕ)) (a b : Outcome) → IsOutcome asked files a → IsOutcome asked files b → a ≡ b

-- Whatever words ask for, and whatever the files are that were loaded for it: where no more are to be loaded, it can't be that
-- there is no outcome.
abbrev pub EachCommandHasAnOutcome : Type 0
EachCommandHasAnOutcome =
    (words : List (List ℕ)) (asked : Option Asked) (files : List (List ℕ)) → AsksFor words asked → (IsUndecided asked files → ⊥)
    → ((outcome : Outcome) → IsOutcome asked files outcome → ⊥) → ⊥

-- the same options, with the schedule at this path
abbrev pub under_schedule : GuestOptions → List ℕ → GuestOptions
under_schedule options path = record options { schedule = Some path }

-- the files of a command without its schedule, and then this one
abbrev pub with_schedule : GuestOptions → List (List ℕ) → List ℕ → List (List ℕ)
with_schedule options files text = take (length (loads_but_schedule options)) files ++ text ∷ []

-- The guest ran, no entry of a schedule stopped it, and this is the recording that was stored.
pub record LeavesRecording (options : RunOptions) (outcome : Outcome) (text : List ℕ) : Type 0 where
  pub path : List ℕ
  pub asked : options.recording ≡ Some path
  pub finish : Finish
  pub ran : outcome.verdict ≡ Ran finish
  pub no_mismatch : IsNoMismatch finish
  pub stored : slice_get outcome.stores 0 ≡ Some (path, text)

-- Under the recording of a first run, which is no longer than a file that is loaded, a second run with the same other words
-- and files has the same outcome: verdict, output, recording and report.
abbrev pub TwoRunsAgree : Type 0
TwoRunsAgree =
    (guest : GuestOptions) (report : List ℕ) (options : RunOptions) (files : List (List ℕ)) (first second : Outcome) (path text : List ℕ)
    → guest.budget ≤ RUN_STEPS → IsOutcome (Some (Guest guest report (Run options))) files first
    → LeavesRecording options first text → length text ≤ file_limit
    → IsOutcome (Some (Guest (under_schedule guest path) report (Run options))) (with_schedule guest files text) second → second ≡ first

-- ---- a stored trace
-- the report of the trace at the path, asked for as the run's report is
abbrev pub replayed_from : List ℕ → RunOptions → List ℕ → ReplayOptions
replayed_from report options path = record { trace = path; report = report; bits = options.bits; stats = options.stats }

-- The trace was replayed, and what that stores is the report that the run stores last; both count the same renumberings.
pub record SharesReport (run replay : Outcome) : Type 0 where
  pub replayed : replay.verdict ≡ Done
  pub earlier : List (List ℕ × List ℕ)
  pub reports : run.stores ≡ earlier ++ replay.stores
  pub stats : replay.stats ≡ run.stats

-- From the trace that is stored of a run, a replay makes the report of that run, with the same other words and files, and stamps
-- of any width.
abbrev pub TracesReplay : Type 0
TracesReplay =
    (guest : GuestOptions) (report : List ℕ) (options : RunOptions) (files : List (List ℕ)) (path bytes : List ℕ) (traced run replayed : Outcome)
    → guest.budget ≤ RUN_STEPS → IsOutcome (Some (Guest guest path Trace)) files traced → traced.stores ≡ (path, bytes) ∷ []
    → IsOutcome (Some (Guest guest report (Run options))) files run
    → IsOutcome (Some (Replay (replayed_from report options path))) (bytes ∷ []) replayed → SharesReport run replayed

-- ---- the report with the calling contexts
-- The bytes begin with the report that the run stores last. Both commands have the same verdict, and the same output of the guest,
-- write by write; the line of `--stats` is no part of that.
pub record BeginsWithReport (path bytes : List ℕ) (contexts run : Outcome) : Type 0 where
  pub earlier : List (List ℕ × List ℕ)
  pub report : List ℕ
  pub stored : run.stores ≡ earlier ++ (path, report) ∷ []
  pub more : List ℕ
  pub begins : bytes ≡ report ++ more
  pub verdict : contexts.verdict ≡ run.verdict
  pub output : contexts.writes ≡ run.writes

-- What `contexts` stores begins, byte for byte, with the report that `run` stores with the same options and files.
abbrev pub ContextsBeginWithTheReport : Type 0
ContextsBeginWithTheReport =
    (guest : GuestOptions) (report : List ℕ) (options : RunOptions) (files : List (List ℕ)) (bytes : List ℕ) (contexts run : Outcome)
    → IsOutcome (Some (Guest guest report (Contexts options.bits))) files contexts → contexts.stores ≡ (report, bytes) ∷ []
    → IsOutcome (Some (Guest guest report (Run options))) files run → BeginsWithReport report bytes contexts run

-- An observed run has at most as many steps as its budget, and each turn that it records has a move and at most as many.
pub record IsBounded (run : ObservedRun) (budget : ℕ) : Type 0 where
  pub steps : steps run.past ≤ budget
  pub turns : TurnsHaveMoves (recording run.moves) (length run.moves) budget

-- So it is of the run of each command, whatever its files and turns: as far as stamps of the width tell its open calls apart, and
-- of the whole run, over which `cache` counts.
pub record RunsAreBounded : Type 0 where
  pub stamps : (bits : StampBits) (options : GuestOptions) (loaded : Loaded) (turns : List Entry)
      → IsBounded (run_of bits options loaded turns) options.budget
  pub whole : (options : GuestOptions) (loaded : Loaded) (turns : List Entry) → IsBounded (whole_run_of options loaded turns) options.budget
