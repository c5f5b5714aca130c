-- A second run under the recording of a first.
use Rattle.std.proofs.Common.{◌≡◌, ℕ, ◌+◌, ◌≤◌, Bool, true, false, ◌||◌, cond, List, [], ◌∷◌, ◌++◌, Option, Some, None, refl, sym, ap, ap₂, ◌∙◌, subst, inl, append-nil, arith, length, length-append, map, take, drop, slice_get}
use Rattle.std.specs.Prelude.{filter, fold, if◌then◌else◌, nat_lt, sum_by, zip}
use Rattle.std.specs.List.{AllByRecursion, list_any}
use Rattle.std.specs.Option.{option_to_list}
use Rattle.std.proofs.lemmas.Bool.Decides.{nat_tests}
use Rattle.std.proofs.lemmas.List.Elements.{filter-append}
use Rattle.std.proofs.lemmas.List.Folds.{list_any-append}
use Rattle.std.proofs.lemmas.List.Sums.{fold-append, sum_by-append}
use Rattle.guest_words.specs.declared.limits.TheConstants.{RUN_STEPS}
use Rattle.command_line.specs.Options.{GuestOptions, RunOptions, arguments}
use Rattle.command_line.specs.Options.Analysis.{Run}
use Rattle.elf_image.specs.declared.error.ElfError.{ElfError}
use Rattle.elf_image.specs.Reading.{image_of}
use Rattle.elf_image.specs.Tests.{first_refusal}
use Rattle.guest_machine.specs.declared.setup.SetupError.{SetupError}
use Rattle.guest_machine.specs.Setup.{setup_refusal}
use Rattle.guest_run.specs.Laws.{IsNoMismatch, ReplaysObserved, scheduler}
use Rattle.guest_run.specs.ObservedRun.{ObservedRun, first_past}
use Rattle.guest_run.specs.Run.{recording}
use Rattle.trace_model.specs.Depth.{is_within}
use Rattle.trace_model.proofs.Cut.{within_closed}
use Rattle.profile_report.specs.ReportText.{report_text}
use Rattle.guest_run.specs.Traces.{EveryRunRecordsEntries}
use Rattle.guest_words.specs.declared.endings.Finish.{Finish}
use Rattle.thread_sched.specs.declared.entry.Entry.{Entry}
use Rattle.thread_sched.specs.ScheduleText.{IsEntry, schedule_text}
use Rattle.aprof_top.specs.declared.source.Source.{Source}
use Rattle.aprof_top.specs.declared.source.Source.TheVariants.{Image, Input, Stdin, Schedule, Trace}
use Rattle.aprof_top.specs.declared.ending.Verdict.{Verdict}
use Rattle.aprof_top.specs.declared.ending.Verdict.TheVariants.{BadImage, BadSchedule, Ran, TooLarge}
use Rattle.aprof_top.specs.Laws.{TwoRunsAgree, under_schedule, with_schedule}
use Rattle.aprof_top.specs.Limits.{file_limit, inputs_limit}
use Rattle.aprof_top.specs.Loads.{Load, Loaded, file_for, guest_loads, inputs_of, is, limit_of, load, loaded_for, loaded_of, loads_but_schedule, passes_limit, shared_bytes}
use Rattle.aprof_top.specs.Outcome.{ByImage, Follows, IsRun, Outcome, Stage, analysed, begun_outcome, recording_stores, refusal, scheduled_outcome, stage}
use Rattle.aprof_top.specs.Outcome.Stage.{Complete, Loading, PastLimit}
use Rattle.aprof_top.specs.Report.{report_of}
use Rattle.aprof_top.specs.Run.{first_state, observed_from, run_of}
use Rattle.stamps.specs.declared.width.StampBits.{StampBits}
use Rattle.stamps.specs.declared.width.StampBits.TheVariants.{B8, B16, B32}
use Rattle.stamps.specs.Widths.{greatest}
use Rattle.aprof_top.specs.Schedules.{Reading}
use Rattle.aprof_top.specs.Schedules.Reading.{BadLine, Turns}
use Rattle.aprof_top.proofs.Commands.{complete_stage}
use Rattle.aprof_top.proofs.OneOutcome.{reads_once}
use Rattle.aprof_top.proofs.StoredRuns.{run_job}

neither : (a b : Bool) → (a || b) ≡ false → (a ≡ false) × (b ≡ false)
neither true b e = absurd (cc)
neither false b e = (refl, e)

-- ---- files in the place of others
-- the files of the first loads, and those of the others
zip_split : {A B : Type 0} (xs ys : List A) (files : List B) → length xs ≤ length files → zip (xs ++ ys) files ≡ zip xs files ++ zip ys (drop (length xs) files)
zip_split [] ys files enough = refl
zip_split (x ∷ xs) ys [] enough = absurd (omega (arith, enough))
zip_split (x ∷ xs) ys (f ∷ files) enough = ap (λ rest. (x, f) ∷ rest) (zip_split xs ys files (omega (arith, enough)))

-- other files follow those of the first loads
zip_front : {A B : Type 0} (xs ys : List A) (files others : List B) → length xs ≤ length files → zip (xs ++ ys) (take (length xs) files ++ others) ≡ zip xs files ++ zip ys others
zip_front [] ys files others enough = refl
zip_front (x ∷ xs) ys [] others enough = absurd (omega (arith, enough))
zip_front (x ∷ xs) ys (f ∷ files) others enough = ap (λ rest. (x, f) ∷ rest) (zip_front xs ys files others (omega (arith, enough)))

front_length : {A B : Type 0} (xs : List A) (files : List B) (text : B) → length xs ≤ length files → length (take (length xs) files ++ text ∷ []) ≡ length xs + 1
front_length [] files text enough = refl
front_length (x ∷ xs) [] text enough = absurd (omega (arith, enough))
front_length (x ∷ xs) (f ∷ files) text enough = let e = front_length xs files text (omega (arith, enough)) in omega (arith, e)

-- ---- all files of the first run were loaded
complete_parts : (past more : Bool) → cond past PastLimit (cond more Loading Complete) ≡ Complete → (past ≡ false) × (more ≡ false)
complete_parts true more e = absurd (cc)
complete_parts false true e = absurd (cc)
complete_parts false false e = (refl, refl)

-- a load with what it gave
abbrev File : Type 0
File = Load × List ℕ

abbrev is_long : File → Bool
is_long file = nat_lt (limit_of file.0.source) (length file.1)

-- the files of a schedule are for nothing else
others_none : (source : Source) → is source Schedule ≡ false → (schedule : Option (List ℕ)) (files : List (List ℕ)) → filter (λ (file : File). is source file.0.source) (zip (map (load Schedule) (option_to_list schedule)) files) ≡ []
others_none source other None files = refl
others_none source other (Some path) [] = refl
others_none source other (Some path) (f ∷ files) = ap (λ b. if b then (load Schedule path, f) ∷ [] else []) other

module _ (options : GuestOptions) (path text : List ℕ) (short : length text ≤ file_limit) (files : List (List ℕ)) (enough : length (loads_but_schedule options) ≤ length files) where
  abbrev front : List Load
  front = loads_but_schedule options

  abbrev second : GuestOptions
  second = under_schedule options path

  abbrev others : List (List ℕ)
  others = drop (length front) files

  abbrev files_again : List (List ℕ)
  files_again = with_schedule options files text

  -- the schedule stands last in both runs
  first_is : zip (guest_loads options) files ≡ zip front files ++ zip (map (load Schedule) (option_to_list options.schedule)) others
  first_is = zip_split front (map (load Schedule) (option_to_list options.schedule)) files enough

  again_is : zip (guest_loads second) files_again ≡ zip front files ++ (load Schedule path, text) ∷ []
  again_is = zip_front front (load Schedule path ∷ []) files (text ∷ []) enough

  -- what is loaded for something else is the same
  module _ (source : Source) (other : is source Schedule ≡ false) where
    abbrev test : File → Bool
    test file = is source file.0.source

    first_for : loaded_for source (guest_loads options) files ≡ filter test (zip front files)
    first_for =
        ap (filter test) first_is
        ∙ filter-append test (zip front files) (zip (map (load Schedule) (option_to_list options.schedule)) others)
        ∙ ap (λ rest. filter test (zip front files) ++ rest) (others_none source other options.schedule others)
        ∙ append-nil (filter test (zip front files))

    again_for : loaded_for source (guest_loads second) files_again ≡ filter test (zip front files)
    again_for =
        ap (filter test) again_is
        ∙ filter-append test (zip front files) ((load Schedule path, text) ∷ [])
        ∙ ap (λ b. filter test (zip front files) ++ (if b then (load Schedule path, text) ∷ [] else [])) other
        ∙ append-nil (filter test (zip front files))

    same_for : loaded_for source (guest_loads second) files_again ≡ loaded_for source (guest_loads options) files
    same_for = again_for ∙ sym first_for

    same_file : file_for source (guest_loads second) files_again ≡ file_for source (guest_loads options) files
    same_file = ap (fold (λ before (file : File). file.1) []) same_for

  schedule_is : file_for Schedule (guest_loads second) files_again ≡ text
  schedule_is =
      ap (λ found. fold (λ before (file : File). file.1) [] (filter (λ (file : File). is Schedule file.0.source) found)) again_is
      ∙ ap (fold (λ before (file : File). file.1) []) (filter-append (λ (file : File). is Schedule file.0.source) (zip front files) ((load Schedule path, text) ∷ []))
      ∙ fold-append (λ before (file : File). file.1) [] (filter (λ (file : File). is Schedule file.0.source) (zip front files)) ((load Schedule path, text) ∷ [])

  same_loaded : loaded_of (guest_loads second) files_again ≡ record (loaded_of (guest_loads options) files) { schedule = text }
  same_loaded = λ i. record {
    image = same_file Image refl i;
    inputs = ap inputs_of (same_for Input refl) i;
    stdin = same_file Stdin refl i;
    schedule = schedule_is i;
    trace = same_file Trace refl i;
  }

  -- and no limit is passed
  still_few : passes_limit (guest_loads options) files ≡ false → passes_limit (guest_loads second) files_again ≡ false
  still_few few =
      let schedules = zip (map (load Schedule) (option_to_list options.schedule)) others in
      let parts = neither (list_any is_long (zip front files ++ schedules)) (nat_lt inputs_limit (sum_by shared_bytes (zip front files ++ schedules))) (ap (λ (found : List File). list_any is_long found || nat_lt inputs_limit (sum_by shared_bytes found)) (sym first_is) ∙ few) in
      let none_long = neither (list_any is_long (zip front files)) (list_any is_long schedules) (sym (list_any-append is_long (zip front files) schedules) ∙ parts.0) in
      ap (λ (found : List File). list_any is_long found || nat_lt inputs_limit (sum_by shared_bytes found)) again_is
      ∙ ap₂ ◌||◌
      (list_any-append is_long (zip front files) ((load Schedule path, text) ∷ []) ∙ ap₂ ◌||◌ none_long.0 (ap (λ b. b || false) (small (length text) file_limit short)))
      (ap (nat_lt inputs_limit) (sum_by-append shared_bytes (zip front files) ((load Schedule path, text) ∷ []))
      ∙ fewer (sum_by shared_bytes (zip front files)) (sum_by shared_bytes schedules) (ap (nat_lt inputs_limit) (sym (sum_by-append shared_bytes (zip front files) schedules)) ∙ parts.1))
    where
      small : (a b : ℕ) → a ≤ b → nat_lt b a ≡ false
      small a b le = grind (arith, nat_tests, le)

      fewer : (a b : ℕ) → nat_lt inputs_limit (a + b) ≡ false → nat_lt inputs_limit (a + 0) ≡ false
      fewer a b e = grind (arith, nat_tests, e)

-- with the recording in the place of the schedule they are complete too, and the others are the same
pub second_files : (options : GuestOptions) (path text : List ℕ) (files : List (List ℕ)) → length text ≤ file_limit → stage (guest_loads options) files ≡ Complete
    → (stage (guest_loads (under_schedule options path)) (with_schedule options files text) ≡ Complete)
    × (loaded_of (guest_loads (under_schedule options path)) (with_schedule options files text) ≡ record (loaded_of (guest_loads options) files) { schedule = text })
second_files options path text files short complete = (
  complete_stage (guest_loads (under_schedule options path)) (with_schedule options files text) (still_few options path text short files enough parts.0) all,
  same_loaded options path text short files enough,
)
  where
    parts : (passes_limit (guest_loads options) files ≡ false) × (nat_lt (length files) (length (guest_loads options)) ≡ false)
    parts = complete_parts (passes_limit (guest_loads options) files) (nat_lt (length files) (length (guest_loads options))) complete

    no_more : (a b c : ℕ) → nat_lt a (b + c) ≡ false → b ≤ a
    no_more a b c e = grind (arith, nat_tests, e)

    enough : length (loads_but_schedule options) ≤ length files
    enough = no_more (length files) (length (loads_but_schedule options)) (length (map (load Schedule) (option_to_list options.schedule))) (ap (nat_lt (length files)) (sym (length-append (loads_but_schedule options) (map (load Schedule) (option_to_list options.schedule)))) ∙ parts.1)

    all : length (with_schedule options files text) ≡ length (guest_loads (under_schedule options path))
    all = front_length (loads_but_schedule options) files text enough ∙ sym (length-append (loads_but_schedule options) (load Schedule path ∷ []))

-- ---- the first run
-- the guest ran, under these turns
record Ran' (guest : GuestOptions) (report : List ℕ) (options : RunOptions) (loaded : Loaded) (outcome : Outcome) : Type 0 where
  accepted : first_refusal loaded.image ≡ None
  begins : setup_refusal (image_of loaded.image) (arguments guest) ≡ None
  turns : List Entry
  answered : outcome ≡ analysed report (Run options) (image_of loaded.image) (run_of options.bits guest loaded turns)

module _ (guest : GuestOptions) (report : List ℕ) (options : RunOptions) (loaded : Loaded) (outcome : Outcome) (finish : Finish) (ran : outcome.verdict ≡ Ran finish) where
  no_refusal : {A : Type 0} (v : Verdict) → (v ≡ Ran finish → ⊥) → outcome ≡ refusal v → A
  no_refusal v other is = absurd (other (sym (ap (λ (o : Outcome). o.verdict) is) ∙ ran))

  by_setup : first_refusal loaded.image ≡ None → (turns : List Entry) (o : Option SetupError) → setup_refusal (image_of loaded.image) (arguments guest) ≡ o → outcome ≡ begun_outcome (run_job guest report options) loaded turns o → Ran' guest report options loaded outcome
  by_setup accepted turns None begins is = record { accepted = accepted; begins = begins; turns = turns; answered = is }
  by_setup accepted turns (Some why) begins is = no_refusal TooLarge (λ e. cc) is

  by_reading : first_refusal loaded.image ≡ None → (reading : Reading) → outcome ≡ scheduled_outcome (run_job guest report options) loaded reading → Ran' guest report options loaded outcome
  by_reading accepted (Turns turns) is = by_setup accepted turns (setup_refusal (image_of loaded.image) (arguments guest)) refl is
  by_reading accepted (BadLine line) is = no_refusal (BadSchedule line) (λ e. cc) is

  by_image : (o : Option ElfError) → first_refusal loaded.image ≡ o → ByImage (run_job guest report options) loaded outcome o → Ran' guest report options loaded outcome
  by_image None accepted is = by_reading accepted is.reading is.answered
  by_image (Some e) refused is = no_refusal (BadImage e) (λ e. cc) is

complete_run : (guest : GuestOptions) (report : List ℕ) (options : RunOptions) (files : List (List ℕ)) (outcome : Outcome) (finish : Finish) → outcome.verdict ≡ Ran finish → (s : Stage) → stage (guest_loads guest) files ≡ s → Follows (IsRun (run_job guest report options) (loaded_of (guest_loads guest) files)) outcome s → (stage (guest_loads guest) files ≡ Complete) × Ran' guest report options (loaded_of (guest_loads guest) files) outcome
complete_run guest report options files outcome finish ran PastLimit is follows = no_refusal guest report options (loaded_of (guest_loads guest) files) outcome finish ran TooLarge (λ e. cc) follows
complete_run guest report options files outcome finish ran Loading is follows = absurd follows
complete_run guest report options files outcome finish ran Complete is follows = (is, by_image guest report options (loaded_of (guest_loads guest) files) outcome finish ran (first_refusal (loaded_of (guest_loads guest) files).image) refl follows)

-- ---- the second run
-- the recording that was stored
stored_is : (recording : Option (List ℕ)) (turns : List Entry) (more : List (List ℕ × List ℕ)) (path text : List ℕ) → recording ≡ Some path → slice_get (recording_stores recording turns ++ more) 0 ≡ Some (path, text) → text ≡ schedule_text turns
stored_is None turns more path text is get = absurd (cc)
stored_is (Some other) turns more path text is get = ap (λ (store : List ℕ × List ℕ). store.1) (same (other, schedule_text turns) (path, text) get)
  where
    same : (a b : List ℕ × List ℕ) → Some a ≡ Some b → b ≡ a
    same a b e = cc

module _ (replays : ReplaysObserved) (entries : EveryRunRecordsEntries) (guest : GuestOptions) (report : List ℕ) (options : RunOptions) (loaded : Loaded) (turns : List Entry) (path text : List ℕ) where
  abbrev again : Loaded
  again = record loaded { schedule = text }

  abbrev seen : ObservedRun
  seen = run_of options.bits guest loaded turns

  first_fits : (bits : StampBits) (entry : ℕ) → is_within (greatest bits) (first_past entry) ≡ true
  first_fits B8 entry = refl
  first_fits B16 entry = refl
  first_fits B32 entry = refl

  same_seen : IsNoMismatch seen.finish → run_of options.bits (under_schedule guest path) again (recording seen.moves) ≡ seen
  unfolding observed_from first_state
  same_seen no_mismatch = replays (is_within (greatest options.bits)) (first_past (image_of loaded.image).entry) guest.quantum guest.quantum guest.budget turns (first_state guest loaded) (within_closed (greatest options.bits)) (first_fits options.bits (image_of loaded.image).entry) no_mismatch

  are_entries : guest.budget ≤ RUN_STEPS → AllByRecursion IsEntry (recording seen.moves)
  unfolding observed_from first_state
  are_entries few = (entries (image_of loaded.image) (arguments guest) loaded.inputs loaded.stdin (is_within (greatest options.bits)) (scheduler guest.quantum turns) guest.budget few).observed_part

  module _ (few : guest.budget ≤ RUN_STEPS) (no_mismatch : IsNoMismatch seen.finish) (is_text : text ≡ schedule_text (recording seen.moves)) (accepted : first_refusal loaded.image ≡ None) (begins : setup_refusal (image_of loaded.image) (arguments guest) ≡ None) (second : Outcome) where
    under_turns : second ≡ scheduled_outcome (run_job (under_schedule guest path) report options) again (Turns (recording seen.moves)) → second ≡ analysed report (Run options) (image_of loaded.image) seen
    under_turns is =
        is
        ∙ ap (begun_outcome (run_job (under_schedule guest path) report options) again (recording seen.moves)) begins
        ∙ ap (analysed report (Run options) (image_of loaded.image)) (same_seen no_mismatch)

    second_run : IsRun (run_job (under_schedule guest path) report options) again second → second ≡ analysed report (Run options) (image_of loaded.image) seen
    second_run is =
        let run = subst (λ o. ByImage (run_job (under_schedule guest path) report options) again second o) accepted is in
        under_turns (run.answered ∙ ap (scheduled_outcome (run_job (under_schedule guest path) report options) again) (reads_once text run.reading (Turns (recording seen.moves)) run.read (are_entries few, inl is_text)))

pub two_runs_agree : ReplaysObserved → EveryRunRecordsEntries → TwoRunsAgree
two_runs_agree replays entries guest report options files first second path text few is leaves short second_is =
    let loaded = loaded_of (guest_loads guest) files in
    let ran = complete_run guest report options files first leaves.finish leaves.ran (stage (guest_loads guest) files) refl is in
    let run = ran.1 in
    let image = image_of loaded.image in
    let seen : ObservedRun = run_of options.bits guest loaded run.turns in
    let is_text : text ≡ schedule_text (recording seen.moves) =
    stored_is options.recording (recording seen.moves) ((report, report_text (report_of image.names seen.finish seen.past)) ∷ []) leaves.path text leaves.asked (ap (λ (o : Outcome). slice_get o.stores 0) (sym run.answered) ∙ leaves.stored) in
    let finish : seen.finish ≡ leaves.finish = same_finish seen.finish leaves.finish (ap (λ (o : Outcome). o.verdict) (sym run.answered) ∙ leaves.ran) in
    let complete = second_files guest path text files short ran.0 in
    let is_run : IsRun (run_job (under_schedule guest path) report options) (record loaded { schedule = text }) second =
    subst (λ l. IsRun (run_job (under_schedule guest path) report options) l second) complete.1 (subst (λ s. Follows (IsRun (run_job (under_schedule guest path) report options) (loaded_of (guest_loads (under_schedule guest path)) (with_schedule guest files text))) second s) complete.0 second_is) in
    second_run replays entries guest report options loaded run.turns path text few (subst IsNoMismatch (sym finish) leaves.no_mismatch) is_text run.accepted run.begins second is_run
    ∙ sym run.answered
  where
    same_finish : (a b : Finish) → Ran a ≡ Ran b → a ≡ b
    same_finish a b e = cc
