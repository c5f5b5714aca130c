-- The report of a stored trace is the report of its run.
use Rattle.std.proofs.Common.{◌≡◌, ℕ, ◌+◌, ◌*◌, ◌≤◌, Bool, true, false, cond, List, [], ◌∷◌, ◌++◌, length, refl, sym, ap, ap₂, ◌∙◌, subst, inl, arith}
use Rattle.std.specs.Prelude.{nat_le, nat_lt, if◌then◌else◌}
use Rattle.std.proofs.lemmas.Bool.{and_from, and_parts, false≢true}
use Rattle.std.proofs.lemmas.Bool.Decides.{nat_tests}
use Rattle.guest_words.specs.declared.endings.Finish.{Finish}
use Rattle.guest_words.specs.declared.endings.Finish.TheVariants.{Deep}
use Rattle.guest_words.specs.declared.limits.TheConstants.{RUN_STEPS}
use Rattle.command_line.specs.Options.{GuestOptions, arguments}
use Rattle.command_line.specs.Options.Analysis.{Trace}
use Rattle.elf_image.specs.Image.{Executable}
use Rattle.elf_image.specs.Reading.{image_of}
use Rattle.guest_run.specs.ObservedRun.{ObservedRun, observed_run}
use Rattle.guest_machine.specs.Laws.{IsAddress}
use Rattle.guest_run.specs.Run.{recording}
use Rattle.guest_run.specs.Traces.{TellsInRange}
use Rattle.guest_run.proofs.Ranges.{every_run_in_range}
use Rattle.profile_report.specs.ReportText.{report_text}
use Rattle.stamp_table.specs.Counting.{renumberings}
use Rattle.stamps.specs.declared.width.StampBits.{StampBits}
use Rattle.stamps.specs.declared.width.StampBits.TheVariants.{B8, B16, B32}
use Rattle.stamps.specs.Widths.{greatest}
use Rattle.thread_sched.specs.declared.entry.Entry.{Entry}
use Rattle.trace_file.specs.TraceText.{IsTrace}
use Rattle.trace_model.specs.declared.event_kinds.Event.{Event}
use Rattle.trace_model.specs.Cut.{cut}
use Rattle.trace_model.specs.Depth.{is_within, pending}
use Rattle.trace_model.specs.WellFormed.{IsWellFormed}
use Rattle.stored_traces.specs.Entries.{entries_begun}
use Rattle.aprof_top.specs.Laws.{TracesReplay, replayed_from}
use Rattle.aprof_top.specs.Limits.{trace_limit}
use Rattle.aprof_top.specs.Loads.{Loaded, guest_loads, load, loaded_of}
use Rattle.aprof_top.specs.Outcome.{Follows, IsReplay, Outcome, job_of, recording_stores, replay_outcome, replay_text, stage, stats_of, told_apart, told_finish}
use Rattle.aprof_top.specs.Outcome.Stage.{Complete}
use Rattle.aprof_top.specs.Report.{report_of}
use Rattle.aprof_top.specs.Run.{first_state, observed_from, run_of}
use Rattle.aprof_top.specs.declared.source.Source.TheVariants as source
use Rattle.aprof_top.specs.Traces.{is_storable, names_begun, trace_of}
use Rattle.aprof_top.proofs.OneOutcome.{TracesAreKnown, replay_once}
use Rattle.aprof_top.proofs.Runs.{formed_observed}
use Rattle.aprof_top.proofs.StoredRuns.{came_to, run_is, stored_some, stored_text}
use Rattle.aprof_top.proofs.Recorded.{begun_rise}
use Rattle.aprof_top.proofs.TraceEntries.{names_are}
use Rattle.aprof_top.proofs.TraceRanges.{entry_low, records_fit}

-- ---- a cut that is cut again
less_within : (small big : ℕ) → small ≤ big → (past : List Event) → is_within small past ≡ true → is_within big past ≡ true
less_within small big le [] is = test
  where
    test : nat_le 3 big ≡ true
    test = grind (arith, nat_tests, le, is)
less_within small big le (e ∷ past) is =
    let both = and_parts (nat_le (3 * (pending (e ∷ past) + 1)) small) (is_within small past) is in
    and_from (nat_le (3 * (pending (e ∷ past) + 1)) big) (is_within big past) (test (3 * (pending (e ∷ past) + 1)) both.0) (less_within small big le past both.1)
  where
    test : (n : ℕ) → nat_le n small ≡ true → nat_le n big ≡ true
    test n h = grind (arith, nat_tests, le, h)

module _ (small big : ℕ) (le : small ≤ big) where
  not_within : (past : List Event) → is_within big past ≡ false → is_within small past ≡ false
  not_within past beyond = by (is_within small past) refl
    where
      by : (b : Bool) → is_within small past ≡ b → b ≡ false
      by true is = absurd (false≢true (sym beyond ∙ less_within small big le past is))
      by false is = refl

  cut_again : (past : List Event) → cut (is_within small) (cut (is_within big) past) ≡ cut (is_within small) past
  cut_again [] = refl
  cut_again (e ∷ past) = by (is_within big (e ∷ past)) refl (cut_again past)
    where
      by : (b : Bool) → is_within big (e ∷ past) ≡ b → cut (is_within small) (cut (is_within big) past) ≡ cut (is_within small) past
          → cut (is_within small) (cond b (e ∷ past) (cut (is_within big) past)) ≡ cut (is_within small) (e ∷ past)
      by true is rec = refl
      by false is rec = rec ∙ sym (ap (λ b. cond b (e ∷ past) (cut (is_within small) past)) (not_within (e ∷ past) is))

  -- and its end
  end_again : (past : List Event) (finish : Finish) → (if is_within small (cut (is_within big) past) then (if is_within big past then finish else Deep) else Deep) ≡ (if is_within small past then finish else Deep)
  end_again past finish = by (is_within big past) refl
    where
      whole : (past : List Event) → is_within big past ≡ true → cut (is_within big) past ≡ past
      whole [] is = refl
      whole (e ∷ past) is = ap (λ b. cond b (e ∷ past) (cut (is_within big) past)) is

      either : (b : Bool) → cond b Deep Deep ≡ Deep
      either true = refl
      either false = refl

      by : (b : Bool) → is_within big past ≡ b → (if is_within small (cut (is_within big) past) then (if b then finish else Deep) else Deep) ≡ (if is_within small past then finish else Deep)
      by true is = ap (λ p. if is_within small p then finish else Deep) (whole past is)
      by false is = either (is_within small (cut (is_within big) past)) ∙ sym (ap (λ b. if b then finish else Deep) (not_within past is))

widest : (bits : StampBits) → greatest bits ≤ greatest B32
widest B8 = omega arith
widest B16 = omega arith
widest B32 = omega arith

-- ---- the run
module _ (bits : StampBits) (options : GuestOptions) (loaded : Loaded) (turns : List Entry) where
  abbrev wide : ObservedRun
  wide = run_of B32 options loaded turns

  abbrev narrow : ObservedRun
  narrow = run_of bits options loaded turns

  past_again : told_apart bits wide.past ≡ narrow.past
  unfolding observed_from observed_run
  past_again = cut_again (greatest bits) (greatest B32) (widest bits) _

  finish_again : told_finish bits wide.past wide.finish ≡ narrow.finish
  unfolding observed_from observed_run
  finish_again = end_again (greatest bits) (greatest B32) (widest bits) _ _

  -- its report, with the names of the trace
  report_again : (image : Executable) → report_of (names_begun image wide.past) (told_finish bits wide.past wide.finish) (told_apart bits wide.past) ≡ report_of image.names narrow.finish narrow.past
  report_again image =
      ap (λ routines. record (report_of image.names (told_finish bits wide.past wide.finish) (told_apart bits wide.past)) { routines = routines }) (names_are image (is_within (greatest bits)) wide.past)
      ∙ ap₂ (report_of image.names) finish_again past_again

  text_again : (image : Executable) → replay_text bits (names_begun image wide.past) wide.finish wide.past ≡ report_text (report_of image.names narrow.finish narrow.past)
  text_again image = ap report_text (report_again image)

-- ---- the trace that was stored
short_enough : (text : List ℕ) → is_storable text ≡ true → nat_lt trace_limit (length text) ≡ false
short_enough text is = grind (arith, nat_tests, is)

formed_wide : (options : GuestOptions) (loaded : Loaded) (turns : List Entry) → options.budget ≤ RUN_STEPS → IsWellFormed (run_of B32 options loaded turns).past
unfolding first_state
formed_wide options loaded turns few = formed_observed (is_within (greatest B32)) options turns (image_of loaded.image) loaded.inputs loaded.stdin few

wide_in_range : (options : GuestOptions) (loaded : Loaded) (turns : List Entry) → IsAddress (image_of loaded.image).entry → TellsInRange (1 + options.budget) (run_of B32 options loaded turns)
unfolding first_state observed_from
wide_in_range options loaded turns entry =
    every_run_in_range (image_of loaded.image) (arguments options) loaded.inputs loaded.stdin (is_within (greatest B32)) options.quantum turns options.budget entry

-- a trace that is short enough is the only file
alone : (path bytes : List ℕ) → nat_lt trace_limit (length bytes) ≡ false → stage (load source.Trace path ∷ []) (bytes ∷ []) ≡ Complete
alone path bytes short = rw short refl

pub traces_replay : TracesAreKnown → TracesReplay
traces_replay known guest report options files path bytes traced ran replayed few is_traced stored is_ran is_replayed =
    let job = job_of guest path Trace in
    let came = came_to job files traced (stored_some traced (λ none. absurd (cc (sym stored ∙ none)))) (stage (guest_loads guest) files) refl is_traced in
    let loaded = loaded_of (guest_loads guest) files in
    let image = image_of loaded.image in
    let wide : ObservedRun = run_of B32 guest loaded came.turns in
    let narrow : ObservedRun = run_of options.bits guest loaded came.turns in
    let text = stored_text wide (is_storable (trace_of image wide)) path bytes (trace_of image wide) (ap (λ (o : Outcome). o.stores) (sym came.answered) ∙ stored) in
    let asked = replayed_from report options path in
    let is_trace : IsTrace bytes wide.past (names_begun image wide.past) wide.finish = record {
      told = record {
        formed = formed_wide guest loaded came.turns few;
        rising = begun_rise image (entries_begun wide.past) wide.past refl;
        fits = records_fit loaded.image (1 + guest.budget) wide (omega (arith, few)) (wide_in_range guest loaded came.turns (entry_low loaded.image came.accepted));
      };
      text = text.0;
    } in
    let whole : Outcome = replay_outcome asked (names_begun image wide.past) wide.finish wide.past in
    let of_trace : IsReplay asked bytes whole = inl (record { past = wide.past; names = names_begun image wide.past; finish = wide.finish; trace = is_trace; answered = refl }) in
    let short : nat_lt trace_limit (length bytes) ≡ false = ap (λ (t : List ℕ). nat_lt trace_limit (length t)) text.0 ∙ short_enough (trace_of image wide) text.1 in
    let replayed_is : replayed ≡ whole = replay_once known asked bytes replayed whole (subst (λ s. Follows (IsReplay asked bytes) replayed s) (alone path bytes short) is_replayed) of_trace in
    let ran_is = run_is guest report options job.leaves files traced came ran is_ran in
    let earlier = recording_stores options.recording (recording narrow.moves) in
    record {
      earlier = earlier;
      reports = ap (λ (o : Outcome). o.stores) ran_is
          ∙ ap (λ (t : List ℕ). earlier ++ (report, t) ∷ []) (sym (text_again options.bits guest loaded came.turns image))
          ∙ ap (λ (o : Outcome). earlier ++ o.stores) (sym replayed_is);
      replayed = ap (λ (o : Outcome). o.verdict) replayed_is;
      stats = ap (λ (o : Outcome). o.stats) replayed_is
          ∙ ap (λ past. stats_of options.stats (renumberings (greatest options.bits) past)) (past_again options.bits guest loaded came.turns)
          ∙ ap (λ (o : Outcome). o.stats) (sym ran_is);
    }
