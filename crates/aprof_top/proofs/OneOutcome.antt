-- A command has one outcome.
use Rattle.std.proofs.Common.{◌≡◌, ℕ, List, [], Option, Some, None, inl, inr, sym, ap, ap₂, ◌∙◌}
use Rattle.trace_file.specs.Laws.{BytesAreRefusedInOneWay, TextIsOfOneTrace, TracesAreNotRefused}
use Rattle.thread_sched.proofs.Read.{never_both, one_bad_line, read_once}
use Rattle.command_line.specs.Options.{Asked, ReplayOptions}
use Rattle.command_line.specs.Options.Asked.{Guest, Replay, Demo}
use Rattle.demo_guest.specs.Image.{OneDemoFile}
use Rattle.elf_image.specs.Reading.{image_of}
use Rattle.elf_image.specs.declared.error.ElfError.{ElfError}
use Rattle.aprof_top.specs.Loads.{Loaded, loaded_of, loads_of}
use Rattle.aprof_top.specs.Outcome.{ByImage, Follows, IsAnswer, IsOfNoTrace, IsOfTrace, IsReplay, IsScheduled, Job, Outcome, Stage, demo_files, demo_options, demo_outcome, job_of, refusal, replay_outcome, scheduled_outcome, stage}
use Rattle.aprof_top.specs.Outcome.Stage.{PastLimit, Loading, Complete}
use Rattle.aprof_top.specs.Laws.{OneOutcome}
use Rattle.aprof_top.specs.declared.ending.Verdict.TheVariants.{BadTrace}
use Rattle.aprof_top.specs.Run.{run_of}
use Rattle.stamps.specs.declared.width.StampBits.TheVariants.{B32}
use Rattle.aprof_top.specs.Schedules.{Reading, Reads}
use Rattle.aprof_top.specs.Schedules.Reading.{Turns, BadLine}

pub reads_once : (text : List ℕ) (a b : Reading) → Reads text a → Reads text b → a ≡ b
reads_once text (Turns es) (Turns os) r s = ap Turns (read_once text os es s.0 r.0 s.1 r.1)
reads_once text (Turns es) (BadLine n) r s = absurd (never_both text es n r.0 r.1 s)
reads_once text (BadLine n) (Turns es) r s = absurd (never_both text es n s.0 s.1 r)
reads_once text (BadLine m) (BadLine n) r s = ap BadLine (one_bad_line text n m s r)

scheduled_once : (job : Job) (loaded : Loaded) (a b : Outcome) → IsScheduled job loaded a → IsScheduled job loaded b → a ≡ b
scheduled_once job loaded a b r s =
    r.answered ∙ ap (scheduled_outcome job loaded) (reads_once loaded.schedule r.reading s.reading r.read s.read) ∙ sym s.answered

image_once : (job : Job) (loaded : Loaded) (a b : Outcome) (refusal : Option ElfError) → ByImage job loaded a refusal → ByImage job loaded b refusal → a ≡ b
image_once job loaded a b (Some e) r s = r ∙ sym s
image_once job loaded a b None r s = scheduled_once job loaded a b r s

follows_once : (Is : Outcome → Type 0) → ((a b : Outcome) → Is a → Is b → a ≡ b) → (a b : Outcome) (s : Stage) → Follows Is a s → Follows Is b s → a ≡ b
follows_once Is once a b PastLimit p q = p ∙ sym q
follows_once Is once a b Loading p q = absurd p
follows_once Is once a b Complete p q = once a b p q

-- ---- a stored trace
-- What is known of the text of traces.
pub record TracesAreKnown : Type 0 where
  pub one_trace : TextIsOfOneTrace
  pub one_refusal : BytesAreRefusedInOneWay
  pub apart : TracesAreNotRefused

module _ (known : TracesAreKnown) (options : ReplayOptions) (bytes : List ℕ) (a b : Outcome) where
  traces_once : IsOfTrace options bytes a → IsOfTrace options bytes b → a ≡ b
  traces_once p q =
      let same = known.one_trace bytes p.past q.past p.names q.names p.finish q.finish p.trace q.trace in
      p.answered
      ∙ ap (λ past. replay_outcome options p.names p.finish past) same.0
      ∙ ap₂ (λ names finish. replay_outcome options names finish q.past) same.1 same.2
      ∙ sym q.answered

  refusals_once : IsOfNoTrace bytes a → IsOfNoTrace bytes b → a ≡ b
  refusals_once p q =
      let same = known.one_refusal bytes p.past q.past p.why q.why p.refused q.refused p.no_memory q.no_memory in
      p.answered ∙ ap (λ why. refusal (BadTrace why)) same.0 ∙ sym q.answered

  never_both' : {x y : Outcome} → IsOfTrace options bytes x → IsOfNoTrace bytes y → ⊥
  never_both' p q = q.no_memory (known.apart bytes p.past q.past p.names p.finish q.why p.trace q.refused)

  pub replay_once : IsReplay options bytes a → IsReplay options bytes b → a ≡ b
  replay_once (inl p) (inl q) = traces_once p q
  replay_once (inl p) (inr q) = absurd (never_both' p q)
  replay_once (inr p) (inl q) = absurd (never_both' q p)
  replay_once (inr p) (inr q) = refusals_once p q

answer_once : OneDemoFile → TracesAreKnown → (asked : Asked) (loaded : Loaded) (a b : Outcome) → IsAnswer asked loaded a → IsAnswer asked loaded b → a ≡ b
answer_once one_file known (Guest guest path analysis) loaded a b p q = image_once (job_of guest path analysis) loaded a b _ p q
answer_once one_file known (Replay options) loaded a b p q = replay_once known options loaded.trace a b p q
answer_once one_file known (Demo number) loaded a b p q =
    p.answered
    ∙ ap (λ file. demo_outcome number (image_of file) (run_of B32 demo_options (demo_files file) [])) (one_file number p.file q.file p.is_demo q.is_demo)
    ∙ sym q.answered

pub one_outcome : OneDemoFile → TracesAreKnown → OneOutcome
one_outcome one_file known None files a b p q = p ∙ sym q
one_outcome one_file known (Some asked) files a b p q =
    let loaded = loaded_of (loads_of asked) files in
    follows_once (IsAnswer asked loaded) (answer_once one_file known asked loaded) a b (stage (loads_of asked) files) p q
