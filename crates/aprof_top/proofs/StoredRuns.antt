-- What a command came to that stored something, and the run of the same guest and files.
use Rattle.std.proofs.Common.{◌≡◌, ℕ, Bool, true, false, List, [], ◌∷◌, Option, Some, None, refl, sym, ap, ◌∙◌, subst}
use Rattle.std.specs.Prelude.{if◌then◌else◌}
use Rattle.command_line.specs.Options.{GuestOptions, RunOptions, arguments}
use Rattle.command_line.specs.Options.Analysis.{Run}
use Rattle.elf_image.specs.declared.error.ElfError.{ElfError}
use Rattle.elf_image.specs.Reading.{image_of}
use Rattle.elf_image.specs.Tests.{first_refusal}
use Rattle.guest_machine.specs.declared.setup.SetupError.{SetupError}
use Rattle.guest_machine.specs.Setup.{setup_refusal}
use Rattle.guest_run.specs.ObservedRun.{ObservedRun}
use Rattle.thread_sched.specs.declared.entry.Entry.{Entry}
use Rattle.aprof_top.specs.declared.ending.Verdict.{Verdict}
use Rattle.aprof_top.specs.declared.ending.Verdict.TheVariants.{BadImage, BadSchedule, TooLarge}
use Rattle.aprof_top.specs.Loads.{Loaded, guest_loads, loaded_of}
use Rattle.aprof_top.specs.Outcome.{ByImage, Follows, IsRun, Job, Outcome, Stage, begun_outcome, analysed, job_of, one_file, refusal, run_outcome, scheduled_outcome, stage}
use Rattle.aprof_top.specs.Outcome.Stage.{Complete, Loading, PastLimit}
use Rattle.aprof_top.specs.Run.{run_of}
use Rattle.aprof_top.specs.Schedules.{Reading, Reads}
use Rattle.aprof_top.specs.Schedules.Reading.{BadLine, Turns}
use Rattle.aprof_top.specs.Verdicts.{IsOfRun}
use Rattle.aprof_top.proofs.OneOutcome.{reads_once}

-- A job that was not refused ran its guest, under turns that were read.
pub record CameTo (job : Job) (files : List (List ℕ)) (outcome : Outcome) : Type 0 where
  pub complete : stage (guest_loads job.guest) files ≡ Complete
  pub accepted : first_refusal (loaded_of (guest_loads job.guest) files).image ≡ None
  pub turns : List Entry
  pub read : Reads (loaded_of (guest_loads job.guest) files).schedule (Turns turns)
  pub begins : setup_refusal (image_of (loaded_of (guest_loads job.guest) files).image) (arguments job.guest) ≡ None
  pub answered : outcome ≡ job.leaves (loaded_of (guest_loads job.guest) files) turns

module _ (job : Job) (files : List (List ℕ)) (outcome : Outcome) (some : (v : Verdict) → (IsOfRun v → ⊥) → outcome ≡ refusal v → ⊥) where
  abbrev loaded : Loaded
  loaded = loaded_of (guest_loads job.guest) files

  not_refused : {A : Type 0} → (v : Verdict) → (IsOfRun v → ⊥) → outcome ≡ refusal v → A
  not_refused v no_run is = absurd (some v no_run is)

  module _ (complete : stage (guest_loads job.guest) files ≡ Complete) (accepted : first_refusal loaded.image ≡ None) where
    by_setup : (turns : List Entry) → Reads loaded.schedule (Turns turns) → (o : Option SetupError) → setup_refusal (image_of loaded.image) (arguments job.guest) ≡ o → outcome ≡ begun_outcome job loaded turns o → CameTo job files outcome
    by_setup turns read None begins is = record { complete = complete; accepted = accepted; turns = turns; read = read; begins = begins; answered = is }
    by_setup turns read (Some why) begins is = not_refused TooLarge (λ ran. ran) is

    by_reading : (reading : Reading) → Reads loaded.schedule reading → outcome ≡ scheduled_outcome job loaded reading → CameTo job files outcome
    by_reading (Turns turns) read is = by_setup turns read (setup_refusal (image_of loaded.image) (arguments job.guest)) refl is
    by_reading (BadLine line) read is = not_refused (BadSchedule line) (λ ran. ran) is

  by_image : stage (guest_loads job.guest) files ≡ Complete → (o : Option ElfError) → first_refusal loaded.image ≡ o → ByImage job loaded outcome o → CameTo job files outcome
  by_image complete None accepted is = by_reading complete accepted is.reading is.read is.answered
  by_image complete (Some e) refused is = not_refused (BadImage e) (λ ran. ran) is

  pub came_to : (s : Stage) → stage (guest_loads job.guest) files ≡ s → Follows (IsRun job loaded) outcome s → CameTo job files outcome
  came_to PastLimit is follows = not_refused TooLarge (λ ran. ran) follows
  came_to Loading is follows = absurd follows
  came_to Complete is follows = by_image is (first_refusal loaded.image) refl follows

-- the job of `run`
abbrev pub run_job : GuestOptions → List ℕ → RunOptions → Job
run_job guest report options = job_of guest report (Run options)

-- the run itself, of the same guest and files
module _ (guest : GuestOptions) (report : List ℕ) (options : RunOptions) (leaves : Loaded → List Entry → Outcome) (files : List (List ℕ)) (outcome : Outcome) (came : CameTo (record { guest = guest; leaves = leaves }) files outcome) (ran : Outcome) where
  abbrev with_files : Loaded
  with_files = loaded_of (guest_loads guest) files

  pub run_is : Follows (IsRun (run_job guest report options) with_files) ran (stage (guest_loads guest) files)
      → ran ≡ analysed report (Run options) (image_of with_files.image) (run_of options.bits guest with_files came.turns)
  run_is follows =
      let is_run : IsRun (run_job guest report options) with_files ran = subst (λ s. Follows (IsRun (run_job guest report options) with_files) ran s) came.complete follows in
      let scheduled = subst (λ o. ByImage (run_job guest report options) with_files ran o) came.accepted is_run in
      scheduled.answered
      ∙ ap (scheduled_outcome (run_job guest report options) with_files) (reads_once with_files.schedule scheduled.reading (Turns came.turns) scheduled.read came.read)
      ∙ ap (begun_outcome (run_job guest report options) with_files came.turns) came.begins

-- an outcome that stores something is no refusal
pub stored_some : (outcome : Outcome) → (outcome.stores ≡ [] → ⊥) → (v : Verdict) → (IsOfRun v → ⊥) → outcome ≡ refusal v → ⊥
stored_some outcome some v no_run is = some (ap (λ (o : Outcome). o.stores) is)

-- what was stored is this text
abbrev pub either_outcome : ObservedRun → List ℕ → List ℕ → Bool → Outcome
either_outcome run path text b = run_outcome run (if b then Some (one_file path text) else None)

pub stored_text : (run : ObservedRun) (b : Bool) (path bytes text : List ℕ) → (either_outcome run path text b).stores ≡ (path, bytes) ∷ [] → (bytes ≡ text) × (b ≡ true)
stored_text run true path bytes text same =
    let first : (path, text) ≡ (path, bytes) = cc same in
    (sym (ap (λ (store : List ℕ × List ℕ). store.1) first), refl)
stored_text run false path bytes text same = absurd (cc same)
