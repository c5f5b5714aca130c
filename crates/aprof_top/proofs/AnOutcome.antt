-- No command lacks an outcome.
use Rattle.std.proofs.Common.{◌≡◌, ℕ, List, [], Option, Some, None, refl, inl, inr}
use Rattle.command_line.specs.Options.{Asked, ReplayOptions}
use Rattle.command_line.specs.Options.Asked.{Guest, Replay, Demo}
use Rattle.elf_image.specs.declared.error.ElfError.{ElfError}
use Rattle.elf_image.specs.Reading.{image_of}
use Rattle.elf_image.specs.Tests.{first_refusal}
use Rattle.stamps.specs.declared.width.StampBits.TheVariants.{B32}
use Rattle.aprof_top.specs.Laws.{EachCommandHasAnOutcome}
use Rattle.aprof_top.specs.Loads.{Loaded, loaded_of, loads_of}
use Rattle.aprof_top.specs.Outcome.{ByImage, Follows, IsAnswer, IsDemo, IsReplay, IsRun, Job, Outcome, Stage, demo_files, demo_options, demo_outcome, job_of, refusal, replay_outcome, scheduled_outcome, stage}
use Rattle.aprof_top.specs.Outcome.Stage.{Complete, Loading, PastLimit}
use Rattle.aprof_top.specs.Run.{run_of}
use Rattle.aprof_top.specs.declared.ending.Verdict.TheVariants.{BadCommand, BadImage, BadTrace, TooLarge}
use Rattle.aprof_top.proofs.AskedRanges.{IsInRange, asked_in_range}
use Rattle.aprof_top.proofs.DemoFiles.{demo_file}
use Rattle.aprof_top.proofs.ReadTexts.{IsThere, each_text_reads, each_trace_reads}

-- some outcome is so
abbrev ThereIs : (Outcome → Type 0) → Type 0
ThereIs Is = IsThere ((outcome : Outcome) × Is outcome)

run_there : (job : Job) (loaded : Loaded) → ThereIs (IsRun job loaded)
run_there job loaded = by (first_refusal loaded.image)
  where
    by : (why : Option ElfError) → ThereIs (λ outcome. ByImage job loaded outcome why)
    by (Some e) = λ none. none (refusal (BadImage e), refl)
    by None = λ none.
        each_text_reads loaded.schedule
        (λ found. none (scheduled_outcome job loaded found.0, record { reading = found.0; read = found.1; answered = refl }))

replay_there : (options : ReplayOptions) (bytes : List ℕ) → ThereIs (IsReplay options bytes)
replay_there options bytes = λ none. each_trace_reads bytes (λ found. elim found [
  | inl t ↦ none (
    replay_outcome options t.names t.finish t.past,
    inl (record { past = t.past; names = t.names; finish = t.finish; trace = t.trace; answered = refl }),
  )
  | inr r ↦ none (refusal (BadTrace r.why), inr (record { past = r.past; why = r.why; refused = r.refused; no_memory = r.no_memory; answered = refl }))
])

demo_there : (number : ℕ) → IsInRange (Demo number) → ThereIs (IsDemo number)
demo_there number range = λ none.
    (let made = demo_file number range.1 in
    none (
      demo_outcome number (image_of made.0) (run_of B32 demo_options (demo_files made.0) []),
      record { file = made.0; is_demo = made.1; answered = refl },
    ))

answer_there : (asked : Asked) (loaded : Loaded) → IsInRange asked → ThereIs (IsAnswer asked loaded)
answer_there (Guest guest path analysis) loaded range = run_there (job_of guest path analysis) loaded
answer_there (Replay options) loaded range = replay_there options loaded.trace
answer_there (Demo number) loaded range = demo_there number range

stage_there : (Is : Outcome → Type 0) → ThereIs Is → (s : Stage) → (s ≡ Loading → ⊥) → ThereIs (λ outcome. Follows Is outcome s)
stage_there Is there PastLimit decided = λ none. none (refusal TooLarge, refl)
stage_there Is there Loading decided = absurd (decided refl)
stage_there Is there Complete decided = there

pub outcome_there : EachCommandHasAnOutcome
outcome_there words None files asks decided none = none (refusal BadCommand) refl
outcome_there words (Some asked) files asks decided none =
    let loaded = loaded_of (loads_of asked) files in
    stage_there (IsAnswer asked loaded) (answer_there asked loaded (asked_in_range words (Some asked) asks)) (stage (loads_of asked) files) decided
    (λ found. none found.0 found.1)
