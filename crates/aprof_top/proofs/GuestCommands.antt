-- How a command that runs a guest ends, once its guest is prepared.
use Rattle.std.proofs.Common.{◌≡◌, ℕ, Bool, List, Option, Some, None, Result, refl, ap₂}
use Rattle.command_line.specs.Options.{Analysis, GuestOptions, arguments}
use Rattle.guest_machine.specs.Setup.{setup_refusal}
use Rattle.guest_machine.specs.Start.{start}
use Rattle.guest_run.specs.Output.{Sinks, sinks, with_output}
use Rattle.guest_run.specs.ObservedRun.{ObservedRun}
use Rattle.host_io.specs.Files.{FilesState}
use Rattle.host_io.specs.Sink.{SinkState}
use Rattle.trace_model.specs.declared.event_kinds.Event.{Event}
use Rattle.aprof_top.specs.declared.ending.Ending as declared
use Rattle.aprof_top.specs.declared.ending.Verdict.{Verdict}
use Rattle.aprof_top.specs.declared.preparation.Prepared.{Prepared}
use Rattle.aprof_top.specs.Private.Jobs.{JobRuns, RunIsStored, RunStops, desk, ending_by}
use Rattle.aprof_top.specs.Loads.{Loaded}
use Rattle.aprof_top.specs.Outcome.{Job, Left, Outcome, analysed, follows_to, job_of, left_of, run_outcome, writes_of}
use Rattle.aprof_top.specs.Outside.{outside}
use Rattle.aprof_top.specs.Private.Preparing.{ArePrepared}
use Rattle.aprof_top.specs.Run.{observed_from}
use Rattle.aprof_top.specs.Verdicts.{IsOfRun}
use Rattle.aprof_top.proofs.Runs.{FilesRun-given_up, FilesRun-stored, seen_by}

-- what a run leaves: it came to this, and the output is the guest's
of_run : (seen : ObservedRun) (left : Option Left) → IsOfRun (run_outcome seen left).verdict
of_run seen (Some left) = tt
of_run seen None = tt

writes_are : (seen : ObservedRun) (left : Option Left) → (run_outcome seen left).writes ≡ writes_of seen.moves
writes_are seen (Some left) = refl
writes_are seen None = refl

-- what is observed of the run of a guest that was prepared
abbrev pub seen_of : (List Event → Bool) → GuestOptions → Prepared → ObservedRun
seen_of fits options prepared =
    observed_from fits options prepared.files.schedule prepared.image.entry
    (start prepared.image (arguments options) prepared.files.inputs prepared.files.stdin.items)

module _ (guest : GuestOptions) (path : List ℕ) (analysis : Analysis) (prepared : Prepared) (files : FilesState) (out err : SinkState) (after : Sinks) where
  abbrev job : Job
  job = job_of guest path analysis

  abbrev seen : ObservedRun
  seen = seen_of (follows_to analysis) guest prepared

  abbrev left : Option Left
  left = left_of path analysis prepared.image seen

  abbrev outcome : Outcome
  outcome = run_outcome seen left

  left_is : (loaded : Loaded) → ArePrepared loaded prepared → outcome ≡ job.leaves loaded prepared.files.schedule
  left_is loaded are =
      ap₂ (analysed path analysis) are.image
      (seen_by (follows_to analysis) guest loaded prepared.files.schedule prepared.image prepared.files.inputs prepared.files.stdin.items are.image are.inputs_are are.stdin)

  -- its run stopped before its end
  pub JobRuns-given_up : (e : declared.Ending) → RunStops (setup_refusal prepared.image (arguments guest)) seen (sinks out err) after e →
      JobRuns job prepared (outside files out err) (outside files after.out after.err) e
  JobRuns-given_up e stops loaded are =
      FilesRun-given_up job loaded are.accepted prepared.files.schedule are.read.0 are.read.1 prepared.image are.image
      seen outcome (left_is loaded are) (of_run seen left) (writes_are seen left)
      files (sinks out err) after e stops

  -- its run came to its end, and what it leaves was stored so
  pub JobRuns-stored : setup_refusal prepared.image (arguments guest) ≡ None → after ≡ with_output seen.moves (sinks out err) →
      (stored : FilesState) (last : SinkState) (result : Result Verdict declared.Ending) →
      RunIsStored outcome (desk files after.err) (desk stored last) result →
      JobRuns job prepared (outside files out err) (outside stored after.out last) (ending_by result)
  JobRuns-stored begins whole stored last result stores loaded are =
      FilesRun-stored job loaded are.accepted prepared.files.schedule are.read.0 are.read.1 prepared.image are.image
      seen outcome (left_is loaded are) (of_run seen left) (writes_are seen left)
      files (sinks out err) after begins whole stored last result stores
