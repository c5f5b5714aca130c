-- The report that an outcome stores is a valid one.
use Rattle.std.proofs.Common.{◌≡◌, ℕ, ◌+◌, ◌<◌, ◌≤◌, ◌^◌, Bool, true, false, cond, List, [], ◌∷◌, ◌++◌, Some, None, map, reverse, refl, ap, ◌∙◌, subst, inl, inr, arith}
use Rattle.std.specs.List.{All, AllByRecursion}
use Rattle.std.proofs.lemmas.List.{map-append, reverse-append}
use Rattle.std.proofs.lemmas.List.Elements.{All-cons, All-nil}
use Rattle.guest_words.specs.declared.endings.Finish.{Finish}
use Rattle.guest_words.specs.declared.endings.Finish.TheVariants as ends
use Rattle.guest_words.specs.declared.limits.TheConstants.{RUN_STEPS}
use Rattle.command_line.specs.Options.{Analysis, Asked, GuestOptions, ReplayOptions, arguments}
use Rattle.command_line.specs.Options.Analysis.{Run, Trace, Cache, Contexts}
use Rattle.command_line.specs.Options.Asked.{Guest, Replay, Demo}
use Rattle.elf_image.specs.Reading.{image_of}
use Rattle.elf_image.specs.Tests.{first_refusal}
use Rattle.guest_run.specs.ObservedRun.{ObservedRun}
use Rattle.guest_run.specs.Run.{recording}
use Rattle.guest_run.specs.Traces.{IsEndInRange, TellsInRange}
use Rattle.guest_run.proofs.Ranges.{every_run_in_range}
use Rattle.profile_report.specs.ContextText.{contexts_text}
use Rattle.profile_report.specs.Fits.{FitsEnd}
use Rattle.profile_report.specs.ReportText.{report_text}
use Rattle.context_tree.specs.Contexts as tree
use Rattle.context_tree.specs.Order.{in_order}
use Rattle.stamps.specs.declared.width.StampBits.{StampBits}
use Rattle.stamps.specs.Widths.{greatest}
use Rattle.thread_sched.specs.declared.entry.Entry.{Entry}
use Rattle.trace_file.specs.Records.{Fits}
use Rattle.trace_file.specs.TraceText.{IsTrace, Names, event_records, finish_records, name_records}
use Rattle.trace_file.specs.declared.records.Record.{Record}
use Rattle.trace_file.specs.declared.records.Record.TheVariants.{OfEvent, OfFinish}
use Rattle.trace_model.specs.declared.event_kinds.Event.{Event}
use Rattle.trace_model.specs.declared.event_kinds.Event.TheVariants.{Call, Start}
use Rattle.trace_model.specs.Depth.{is_within}
use Rattle.trace_model.specs.WellFormed.{IsLight}
use Rattle.trace_model.proofs.Bounds.{light_formed}
use Rattle.aprof_top.specs.ContextReports.{can_be_numbered, contexts_report}
use Rattle.aprof_top.specs.Loads.{Loaded, guest_loads, loaded_of, loads_of}
use Rattle.aprof_top.specs.Outcome.{Follows, IsAnswer, IsOutcome, IsReplay, Outcome, Stage, job_of, recording_stores, refusal, replay_text, stage, told_apart, told_finish}
use Rattle.aprof_top.specs.Outcome.Stage.{Complete, Loading, PastLimit}
use Rattle.aprof_top.specs.Report.{report_of}
use Rattle.aprof_top.specs.Run.{first_state, observed_from, observed_of, run_of}
use Rattle.aprof_top.specs.StoredReports.{BeginsAsReport, HasResult, IsReport, StoredReportsAreValid, StoresLast, StoresReport}
use Rattle.aprof_top.specs.Verdicts.{IsOfRun}
use Rattle.aprof_top.specs.declared.ending.Verdict.{Verdict}
use Rattle.aprof_top.specs.declared.ending.Verdict.TheVariants.{Ran, Done}
use Rattle.aprof_top.proofs.AskedRanges.{IsInRange, asked_in_range}
use Rattle.aprof_top.proofs.Runs.{light_observed}
use Rattle.aprof_top.proofs.StoredRuns.{came_to, either_outcome}
use Rattle.aprof_top.proofs.TraceEntries.{begins, cut_all}
use Rattle.aprof_top.proofs.TraceRanges.{HasName, begun_low, entry_low, names_named}
use Rattle.aprof_top.proofs.ValidPoints.{cut_light, report_valid}

-- ---- a run
end_fits : (lines : ℕ) (f : Finish) → lines < 2 ^ 64 → IsEndInRange lines f → FitsEnd f
end_fits lines (ends.Exit status) few is = is
end_fits lines (ends.Fault kind tid at) few is = (is.0.0, is.0.1, is.1)
end_fits lines (ends.Schedule line) few is = (is.0, omega (arith, is.1, few))
end_fits lines _ few is = tt

module _ (fits : List Event → Bool) (options : GuestOptions) (loaded : Loaded) (turns : List Entry) (few : options.budget ≤ RUN_STEPS) where
  light_run : IsLight (observed_of fits options loaded turns).past
  unfolding first_state
  light_run = light_observed fits options turns (image_of loaded.image) loaded.inputs loaded.stdin few

  run_in_range : first_refusal loaded.image ≡ None → TellsInRange (1 + options.budget) (observed_of fits options loaded turns)
  unfolding first_state observed_from
  run_in_range accepted =
      every_run_in_range (image_of loaded.image) (arguments options) loaded.inputs loaded.stdin fits options.quantum turns options.budget (entry_low loaded.image accepted)

  -- its report is valid
  run_report : first_refusal loaded.image ≡ None
      → (let run = observed_of fits options loaded turns in IsReport (report_text (report_of (image_of loaded.image).names run.finish run.past)))
  run_report accepted =
      let run = observed_of fits options loaded turns in
      let tells = run_in_range accepted in (
        report_of (image_of loaded.image).names run.finish run.past,
        report_valid (image_of loaded.image).names run.finish run.past (names_named loaded.image)
            (end_fits (1 + options.budget) run.finish (omega (arith, few)) tells.finish) light_run (begun_low run.past tells.events),
        refl,
      )

-- an outcome with a result is no refusal
no_refusal : (outcome : Outcome) → HasResult outcome.verdict → (v : Verdict) → (IsOfRun v → ⊥) → outcome ≡ refusal v → ⊥
no_refusal outcome result v no_run is = by v no_run (subst (λ (o : Outcome). HasResult o.verdict) is result)
  where
    by : (v : Verdict) → (IsOfRun v → ⊥) → HasResult v → ⊥
    by (Ran finish) other result' = other tt
    by Done other result' = other tt
    by _ other result' = result'

-- what a command that runs a guest stores
guest_stores : (guest : GuestOptions) (path : List ℕ) (analysis : Analysis) (files : List (List ℕ)) (outcome : Outcome) → guest.budget ≤ RUN_STEPS
    → IsOutcome (Some (Guest guest path analysis)) files outcome → HasResult outcome.verdict → StoresReport outcome.stores (Guest guest path analysis)
guest_stores guest path Trace files outcome few is result = tt
guest_stores guest path (Cache shape) files outcome few is result = tt
guest_stores guest path (Run options) files outcome few is result =
    let job = job_of guest path (Run options) in
    let came = came_to job files outcome (no_refusal outcome result) (stage (guest_loads guest) files) refl is in
    let loaded = loaded_of (guest_loads guest) files in
    let run : ObservedRun = run_of options.bits guest loaded came.turns in
    record {
      earlier = recording_stores options.recording (recording run.moves);
      bytes = report_text (report_of (image_of loaded.image).names run.finish run.past);
      last = ap (λ (o : Outcome). o.stores) came.answered;
      is = run_report (is_within (greatest options.bits)) guest loaded came.turns few came.accepted;
    }
guest_stores guest path (Contexts bits) files outcome few is result =
    let job = job_of guest path (Contexts bits) in
    let came = came_to job files outcome (no_refusal outcome result) (stage (guest_loads guest) files) refl is in
    let loaded = loaded_of (guest_loads guest) files in
    let run : ObservedRun = run_of bits guest loaded came.turns in
    let report = report_text (report_of (image_of loaded.image).names run.finish run.past) in
    by run loaded (can_be_numbered run.past)
    (report, contexts_text run.past (in_order (tree.contexts run.past)), run_report (is_within (greatest bits)) guest loaded came.turns few came.accepted, refl)
    came.answered
  where
    by : (run : ObservedRun) (loaded : Loaded) (b : Bool) → BeginsAsReport (contexts_report (image_of loaded.image) run)
        → outcome ≡ either_outcome run path (contexts_report (image_of loaded.image) run) b → StoresLast path BeginsAsReport outcome.stores
    by run loaded true begins' answered = record {
      earlier = [];
      bytes = contexts_report (image_of loaded.image) run;
      last = ap (λ (o : Outcome). o.stores) answered;
      is = begins';
    }
    by run loaded false begins' answered = absurd (subst (λ (o : Outcome). HasResult o.verdict) answered result)

-- ---- a stored trace
each-parts : (xs ys : List Record) → AllByRecursion Fits (xs ++ ys) → AllByRecursion Fits xs × AllByRecursion Fits ys
each-parts [] ys all = (tt, all)
each-parts (x ∷ xs) ys all = let rest = each-parts xs ys all.1 in ((all.0, rest.0), rest.1)

abbrev IsLow : ℕ → Type 0
IsLow at = at < 2 ^ 32

begun_fit : (past : List Event) → AllByRecursion Fits (event_records past) → All IsLow (begins past)
begun_fit [] all = All-nil IsLow
begun_fit (e ∷ past) all =
    let split : AllByRecursion Fits (event_records past ++ OfEvent e ∷ []) =
    subst (AllByRecursion Fits) (ap (map OfEvent) (reverse-append (e ∷ []) past) ∙ map-append OfEvent (reverse past) (e ∷ [])) all in
    let both = each-parts (event_records past) (OfEvent e ∷ []) split in
    by e both.1.0 (begun_fit past both.0)
  where
    by : (e : Event) → Fits (OfEvent e) → All IsLow (begins past) → All IsLow (begins (e ∷ past))
    by (Start tid entry) fits rest = All-cons IsLow entry (begins past) (omega (arith, fits.ranges.1.0.1)) rest
    by (Call tid entry back) fits rest = All-cons IsLow entry (begins past) (omega (arith, fits.ranges.1.0.1)) rest
    by _ fits rest = rest

named_fit : (names : Names) → AllByRecursion Fits (name_records names) → All HasName names
named_fit [] all = All-nil HasName
named_fit (n ∷ names) all = All-cons HasName n names all.0.content (named_fit names all.1)

finish_fits : (f : Finish) → Fits (OfFinish f) → FitsEnd f
finish_fits (ends.Exit status) fits = omega (arith, fits.ranges.0.1)
finish_fits (ends.Fault kind tid at) fits = (fits.ranges.1.0.0, fits.ranges.1.0.1, omega (arith, fits.ranges.1.1.0.1))
finish_fits (ends.Schedule line) fits = (fits.content, omega (arith, fits.ranges.1.0.1))
finish_fits _ fits = tt

told_fits : (bits : StampBits) (past : List Event) (finish : Finish) → FitsEnd finish → FitsEnd (told_finish bits past finish)
told_fits bits past finish fits = by (is_within (greatest bits) past)
  where
    by : (b : Bool) → FitsEnd (cond b finish ends.Deep)
    by true = fits
    by false = tt

-- the report of a trace is valid
trace_report : (bits : StampBits) (bytes : List ℕ) (past : List Event) (names : Names) (finish : Finish) → IsTrace bytes past names finish → IsReport (replay_text bits names finish past)
trace_report bits bytes past names finish trace =
    let parts = each-parts (event_records past) (name_records names ++ finish_records (Some finish)) trace.told.fits in
    let more = each-parts (name_records names) (finish_records (Some finish)) parts.1 in (
      report_of names (told_finish bits past finish) (told_apart bits past),
      report_valid names (told_finish bits past finish) (told_apart bits past) (named_fit names more.0)
          (told_fits bits past finish (finish_fits finish more.1.0))
          (cut_light (is_within (greatest bits)) past (light_formed past trace.told.formed))
          (cut_all IsLow (is_within (greatest bits)) past (begun_fit past parts.0)),
      refl,
    )

replay_stores : (options : ReplayOptions) (bytes : List ℕ) (outcome : Outcome) → IsReplay options bytes outcome → HasResult outcome.verdict → StoresLast options.report IsReport outcome.stores
replay_stores options bytes outcome (inl is) result = record {
  earlier = [];
  bytes = replay_text options.bits is.names is.finish is.past;
  last = ap (λ (o : Outcome). o.stores) is.answered;
  is = trace_report options.bits bytes is.past is.names is.finish is.trace;
}
replay_stores options bytes outcome (inr refused) result = absurd (subst (λ (o : Outcome). HasResult o.verdict) refused.answered result)

-- ---- the whole
followed : (Is : Outcome → Type 0) (outcome : Outcome) (s : Stage) → HasResult outcome.verdict → Follows Is outcome s → Is outcome
followed Is outcome PastLimit result follows = absurd (subst (λ (o : Outcome). HasResult o.verdict) follows result)
followed Is outcome Loading result follows = absurd follows
followed Is outcome Complete result follows = follows

valid_asked : (asked : Asked) (files : List (List ℕ)) (outcome : Outcome) → IsInRange asked → IsOutcome (Some asked) files outcome → HasResult outcome.verdict → StoresReport outcome.stores asked
valid_asked (Guest guest path analysis) files outcome few is result = guest_stores guest path analysis files outcome few is result
valid_asked (Replay options) files outcome few is result =
    replay_stores options (loaded_of (loads_of (Replay options)) files).trace outcome
    (followed (IsAnswer (Replay options) (loaded_of (loads_of (Replay options)) files)) outcome (stage (loads_of (Replay options)) files) result is) result
valid_asked (Demo number) files outcome few is result = tt

pub stored_reports_valid : StoredReportsAreValid
stored_reports_valid words None files outcome asks is result = tt
stored_reports_valid words (Some asked) files outcome asks is result = valid_asked asked files outcome (asked_in_range words (Some asked) asks) is result
