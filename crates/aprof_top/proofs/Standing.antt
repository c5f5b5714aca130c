-- From how a call ends to what stands outside then.
use Rattle.std.proofs.Common.{◌≡◌, ◌⊎◌, ℕ, zero, suc, ◌<◌, Bool, true, false, List, [], ◌∷◌, ◌++◌, Option, Some, None, refl, sym, ap, ◌∙◌, subst, inl, inr, arith, length, take, slice_get}
use Rattle.std.specs.Option.{IfSome, MatchOption}
use Rattle.std.specs.Map.{update}
use Rattle.std.specs.Str.{bytes_eq}
use Rattle.std.proofs.lemmas.Map.{update_same, update_other}
use Rattle.std.proofs.lemmas.Slice.Eq.{bytes_eq-Decides}
use Rattle.std.specs.Io.KnownBytes.{append_known}
use Rattle.command_line.specs.Options.{Asked, GuestOptions, RunOptions}
use Rattle.command_line.specs.Options.Analysis.{Run}
use Rattle.command_line.specs.Options.Asked.{Guest}
use Rattle.elf_image.specs.declared.error.ElfError.{ElfError}
use Rattle.elf_image.specs.Reading.{image_of}
use Rattle.elf_image.specs.Tests.{first_refusal}
use Rattle.guest_kernel.specs.declared.channel.Channel.TheVariants as channel
use Rattle.guest_machine.specs.declared.setup.SetupError.{SetupError}
use Rattle.guest_machine.specs.Setup.{setup_refusal}
use Rattle.command_line.specs.Options.{arguments}
use Rattle.host_io.specs.Faults.{Rose}
use Rattle.host_io.specs.Files.{Contents, FilesState, Holds, with_file, with_path}
use Rattle.host_io.specs.Sink.{FailsToAppend, SinkState, appended}
use Rattle.guest_run.proofs.Output.{appended-more}
use Rattle.thread_sched.specs.declared.entry.Entry.{Entry}
use Rattle.thread_sched.specs.ScheduleText.{schedule_text}
use Rattle.aprof_top.specs.Answers.{EndsBy, IsWritten}
use Rattle.aprof_top.specs.Delivery.{FailsAtStats, FailsAtStore, FailsOnErr, FailsOnOut, StopsShort, StoreFails}
use Rattle.aprof_top.specs.Ends.{End, Reaches, end_status, end_text}
use Rattle.aprof_top.specs.Ends.End.{Decided, CannotRead, CannotWrite, CannotPut, OutOfMemory}
use Rattle.aprof_top.specs.Found.{Decision}
use Rattle.aprof_top.specs.LastText.{IsMade, IsPut, LastText}
use Rattle.aprof_top.specs.declared.ending.Verdict.{Verdict}
use Rattle.aprof_top.specs.Loads.{Loaded, guest_loads, loaded_of}
use Rattle.aprof_top.specs.Outcome.{ByImage, Follows, IsOutcome, IsRun, Outcome, Stage, begun_outcome, err_of, put_on, recording_stores, scheduled_outcome, stage}
use Rattle.aprof_top.specs.Outcome.Stage.{PastLimit, Loading, Complete}
use Rattle.aprof_top.specs.Outside.{Outside, outside, with_stores}
use Rattle.aprof_top.specs.Schedules.{Reading}
use Rattle.aprof_top.specs.Schedules.Reading.{Turns, BadLine}
use Rattle.aprof_top.specs.Standing.{FailedAtStore, GainedPath, GotFirst, IsCalm, IsTold, IsUntouched, LacksStatistics, LeavesPart, LeavesText, Stands, StandsAfterAll, StandsAfterFault, StandsUnread, decision_of}
use Rattle.aprof_top.specs.Texts.{cannot_read_text, cannot_write_text, out_of_memory_text}
use Rattle.aprof_top.specs.Verdicts.{IsOfRun, verdict_status, verdict_text}
use Rattle.aprof_top.proofs.Endings.{err_rose, is_this, own, still}
use Rattle.aprof_top.proofs.Parts.{err_whole, gained_is, gains_more, no_gain, no_text, output_came, part_at_stats, part_at_store, part_done, part_on_err, part_on_out, part_short, put_part, stats_came, text_alone, with_stores-paths}
use Rattle.aprof_top.proofs.Sinks.{appended-nothing, done-contents, with_stores-faults}
use Rattle.aprof_top.proofs.Statuses.{written_status}
use Rattle.aprof_top.proofs.StoredRuns.{run_job}

-- ---- what a run stores
-- Its stores are the recording, where it is asked for, and the report.
record StoresRun (guest : GuestOptions) (report : List ℕ) (options : RunOptions) (stores : List (List ℕ × List ℕ)) : Type 0 where
  turns : List Entry
  text : List ℕ
  are : stores ≡ recording_stores options.recording turns ++ (report, text) ∷ []

by_setup : (guest : GuestOptions) (report : List ℕ) (options : RunOptions) (loaded : Loaded) (turns : List Entry) (why : Option SetupError) (outcome : Outcome) → outcome ≡ begun_outcome (run_job guest report options) loaded turns why → IsOfRun outcome.verdict → StoresRun guest report options outcome.stores
by_setup guest report options loaded turns (Some why) outcome is ran = absurd (subst (λ (o : Outcome). IsOfRun o.verdict) is ran)
by_setup guest report options loaded turns None outcome is ran = record { turns = _; text = _; are = ap (λ (o : Outcome). o.stores) is }

by_schedule : (guest : GuestOptions) (report : List ℕ) (options : RunOptions) (loaded : Loaded) (reading : Reading) (outcome : Outcome) → outcome ≡ scheduled_outcome (run_job guest report options) loaded reading → IsOfRun outcome.verdict → StoresRun guest report options outcome.stores
by_schedule guest report options loaded (BadLine line) outcome is ran = absurd (subst (λ (o : Outcome). IsOfRun o.verdict) is ran)
by_schedule guest report options loaded (Turns turns) outcome is ran = by_setup guest report options loaded turns (setup_refusal (image_of loaded.image) (arguments guest)) outcome is ran

by_image : (guest : GuestOptions) (report : List ℕ) (options : RunOptions) (loaded : Loaded) (outcome : Outcome) (e : Option ElfError) → ByImage (run_job guest report options) loaded outcome e → IsOfRun outcome.verdict → StoresRun guest report options outcome.stores
by_image guest report options loaded outcome (Some e) is ran = absurd (subst (λ (o : Outcome). IsOfRun o.verdict) is ran)
by_image guest report options loaded outcome None is ran = by_schedule guest report options loaded is.reading outcome is.answered ran

by_stage : (guest : GuestOptions) (report : List ℕ) (options : RunOptions) (files : List (List ℕ)) (outcome : Outcome) (s : Stage) → Follows (IsRun (run_job guest report options) (loaded_of (guest_loads guest) files)) outcome s → IsOfRun outcome.verdict → StoresRun guest report options outcome.stores
by_stage guest report options files outcome PastLimit is ran = absurd (subst (λ (o : Outcome). IsOfRun o.verdict) is ran)
by_stage guest report options files outcome Loading is ran = absurd is
by_stage guest report options files outcome Complete is ran = by_image guest report options (loaded_of (guest_loads guest) files) outcome (first_refusal (loaded_of (guest_loads guest) files).image) is ran

stores_run : (guest : GuestOptions) (report : List ℕ) (options : RunOptions) (files : List (List ℕ)) (asked : Option Asked) (outcome : Outcome) → asked ≡ Some (Guest guest report (Run options)) → IsOutcome asked files outcome → IsOfRun outcome.verdict → StoresRun guest report options outcome.stores
stores_run guest report options files asked outcome is written ran =
    by_stage guest report options files outcome (stage (guest_loads guest) files) (subst (λ a. IsOutcome a files outcome) is written) ran

-- ---- files at other paths
unequal : (a b : List ℕ) → (a ≡ b → ⊥) → bytes_eq a b ≡ false
unequal a b apart = by (bytes_eq a b) refl
  where
    by : (test : Bool) → bytes_eq a b ≡ test → bytes_eq a b ≡ false
    by true is = absurd (apart ((bytes_eq-Decides a b).0 is))
    by false is = is

-- a file was put at another path
untouched : (path other : List ℕ) (left : Option (List ℕ)) (old new : FilesState) → (path ≡ other → ⊥) → new.contents ≡ with_file path left old.contents → IsUntouched other old new
untouched path other left old new apart is = by old.contents new.contents is
  where
    by : (before after : Option Contents) → after ≡ with_file path left before → IfSome before (λ files. IfSome after (λ now. now other ≡ files other))
    by None after is' = tt
    by (Some files) after is' = subst (λ a. IfSome a (λ now. now other ≡ files other)) (sym is') (update_other bytes_eq files path left other (unequal path other apart))

-- a file was put, and then one at another path
still_held : (path bytes other : List ℕ) (left : Option (List ℕ)) (before after : Option Contents) → (path ≡ other → ⊥) → after ≡ with_file other left (with_file path (Some bytes) before) → Holds after path bytes
still_held path bytes other left None after apart is = subst (λ a. Holds a path bytes) (sym is) tt
still_held path bytes other left (Some files) after apart is =
    subst (λ a. Holds a path bytes) (sym is)
    (update_other bytes_eq (update bytes_eq files path (Some bytes)) other left path (unequal other path (λ e. apart (sym e)))
    ∙ update_same bytes_eq files path (Some bytes) path ((bytes_eq-Decides path path).1 refl))

-- ---- a store of a run failed
-- Which of two stores failed: its path may hold anything then.
abbrev WhichFailed : List ℕ × List ℕ → List ℕ × List ℕ → List ℕ → FilesState → FilesState → Type 0
WhichFailed first second failed old new =
    ((failed ≡ first.0) × (left : Option (List ℕ)) × (new.contents ≡ with_file first.0 left old.contents))
    ⊎ ((failed ≡ second.0) × (left : Option (List ℕ)) × (new.contents ≡ with_file second.0 left (with_file first.0 (Some first.1) old.contents)))

which_at : (first second store : List ℕ × List ℕ) (count : ℕ) (left : Option (List ℕ)) (old new : FilesState) → slice_get (first ∷ second ∷ []) count ≡ Some store →
    new.contents ≡ with_file store.0 left (with_stores (take count (first ∷ second ∷ [])) old).contents → WhichFailed first second store.0 old new
which_at first second store zero left old new next is =
    let same : first ≡ store = cc next in
    inl (ap (λ (s : List ℕ × List ℕ). s.0) (sym same), left, is ∙ ap (λ (s : List ℕ × List ℕ). with_file s.0 left old.contents) (sym same))
which_at first second store (suc zero) left old new next is =
    let same : second ≡ store = cc next in
    inr (ap (λ (s : List ℕ × List ℕ). s.0) (sym same), left, is ∙ ap (λ (s : List ℕ × List ℕ). with_file s.0 left (with_file first.0 (Some first.1) old.contents)) (sym same))
which_at first second store (suc (suc count)) left old new next is = absurd (cc next)

which_failed : (first second : List ℕ × List ℕ) (stores : List (List ℕ × List ℕ)) (old new : FilesState) → stores ≡ first ∷ second ∷ [] → (fails : StoreFails stores old new) → WhichFailed first second fails.store.0 old new
which_failed first second stores old new are fails =
    which_at first second fails.store fails.count fails.failed.left old new
    (subst (λ s. slice_get s fails.count ≡ Some fails.store) are fails.next)
    (subst (λ s. new.contents ≡ with_file fails.store.0 fails.failed.left (with_stores (take fails.count s) old).contents) are fails.failed.contents)

-- a failed store leaves the count risen and its path among those that failed
path_failed : (stores : List (List ℕ × List ℕ)) (old new : FilesState) (fails : StoreFails stores old new) → new.failed_paths ≡ with_path fails.store.0 old.failed_paths
path_failed stores old new fails = fails.failed.failed.failed_paths ∙ ap (with_path fails.store.0) (with_stores-paths (take fails.count stores) old)

failed_paths : (stores : List (List ℕ × List ℕ)) (old new : FilesState) → StoreFails stores old new → FailedAtStore stores old new
failed_paths stores old new fails = (
  record { count = fails.count; store = fails.store; next = fails.next; left = fails.failed.left; contents = fails.failed.contents },
  path_failed stores old new fails,
)

store_rose : (stores : List (List ℕ × List ℕ)) (old new : FilesState) → StoreFails stores old new → Rose old.faults new.faults
store_rose stores old new fails = subst (λ n. Rose n new.faults) (with_stores-faults (take fails.count stores) old) fails.failed.failed.faults

module _ (guest : GuestOptions) (report : List ℕ) (options : RunOptions) (path : List ℕ) (asked : options.recording ≡ Some path) (apart : path ≡ report → ⊥) (stores : List (List ℕ × List ℕ)) (run : StoresRun guest report options stores) (old new : FilesState) (fails : StoreFails stores old new) where
  abbrev recorded : List ℕ × List ℕ
  recorded = (path, schedule_text run.turns)

  abbrev reported : List ℕ × List ℕ
  reported = (report, run.text)

  two : stores ≡ recorded ∷ reported ∷ []
  two = run.are ∙ ap (λ recording. recording_stores recording run.turns ++ reported ∷ []) asked

  -- the store whose path was gained
  gained_store : (gained : List ℕ) → GainedPath gained old new → fails.store.0 ≡ gained
  gained_store gained gains = gained_is gained fails.store.0 old new (path_failed stores old new fails) gains

  report_untouched : GainedPath path old new → IsUntouched report old new
  report_untouched gains = by (which_failed recorded reported stores old new two fails)
    where
      by : WhichFailed recorded reported fails.store.0 old new → IsUntouched report old new
      by (inl (failed, left, contents)) = untouched path report left old new apart contents
      by (inr (failed, left, contents)) = absurd (apart (sym (gained_store path gains) ∙ failed))

  recording_stored : GainedPath report old new → (bytes : List ℕ) × (slice_get stores 0 ≡ Some (path, bytes)) × Holds new.contents path bytes
  recording_stored gains = by (which_failed recorded reported stores old new two fails)
    where
      by : WhichFailed recorded reported fails.store.0 old new → (bytes : List ℕ) × (slice_get stores 0 ≡ Some (path, bytes)) × Holds new.contents path bytes
      by (inl (failed, left, contents)) = absurd (apart (sym failed ∙ gained_store report gains))
      by (inr (failed, left, contents)) = (
        schedule_text run.turns,
        ap (λ s. slice_get s 0) two,
        still_held path (schedule_text run.turns) report left old.contents new.contents apart contents,
      )

-- ---- the whole
module _ (words : List (List ℕ)) (status : ℕ) (before after : Outside) where
  -- at status 4 the last text is that of a failure, or there is none
  fault_text : (end : End) (mid : SinkState) → LastText end status mid after.err → status ≡ 4 → end_status end ≡ 4 → (end_text end ≡ cannot_write_text) ⊎ (end_text end ≡ []) → GotFirst cannot_write_text mid after.err
  fault_text end mid (inr wants) four is text = absurd (omega (arith, four, wants.status_is))
  fault_text end mid (inl tells) four is (inl text) = subst (λ t. GotFirst t mid after.err) text (put_part (end_text end) mid after.err tells.text)
  fault_text end mid (inl tells) four is (inr none) = by (subst (λ t. IsPut t mid after.err) none tells.text)
    where
      by : IsPut [] mid after.err → GotFirst cannot_write_text mid after.err
      by (inl same) = (0, ap (λ (s : SinkState). s.bytes) same)
      by (inr (some, fails)) = absurd (omega (arith, some))

  module _ (end : End) (ends : EndsBy words end status before after) (end_is : (end ≡ CannotWrite) ⊎ (end ≡ CannotPut)) (decision : Decision words before.files after.files) (is_of_end : decision_of end ends ≡ Some decision) (ran : IsOfRun decision.outcome.verdict) where
    -- at status 4 a store failed
    after_store : GotFirst cannot_write_text ends.err after.err → FailsAtStore decision.outcome before (outside after.files after.out ends.err) → StandsAfterFault end ends
    after_store told fails =
        let outcome = decision.outcome in
        let came = output_came before after ends.err outcome cannot_write_text told fails.output.out [] (err_whole before after ends.err outcome cannot_write_text told fails.output.err) in
        let failed = failed_paths outcome.stores before.files after.files fails.stored in
        record {
          end_is = end_is;
          decision = decision;
          is_of_end = is_of_end;
          ran = ran;
          part = part_at_store before after ends.err outcome cannot_write_text told fails;
          fault = inr (store_rose outcome.stores before.files after.files fails.stored, failed);
          paths = inr failed;
          output = λ path gains. came;
          recording_failed = λ guest report options path asked recording apart gains. report_untouched guest report options path recording apart outcome.stores
              (stores_run guest report options decision.found.files decision.found.asked outcome asked decision.written ran) before.files after.files fails.stored gains;
          report_failed = λ guest report options path asked recording apart gains. recording_stored guest report options path recording apart outcome.stores
              (stores_run guest report options decision.found.files decision.found.asked outcome asked decision.written ran) before.files after.files fails.stored gains;
          no_store_failed = λ calm. absurd (calm (store_rose outcome.stores before.files after.files fails.stored));
        }

    -- at status 4 a put failed, and no path is among those that failed
    after_put : LeavesPart decision.outcome cannot_write_text before after →
        Rose before.out.faults after.out.faults ⊎ Rose before.err.faults after.err.faults → after.files.failed_paths ≡ before.files.failed_paths →
        (after.files.contents ≡ before.files.contents) ⊎ LacksStatistics decision.outcome before after → StandsAfterFault end ends
    after_put part rose same lacks = record {
      end_is = end_is;
      decision = decision;
      is_of_end = is_of_end;
      ran = ran;
      part = part;
      fault = inl rose;
      paths = inl same;
      output = λ path gains. absurd (no_gain path before.files after.files same gains);
      recording_failed = λ guest report options path asked recording apart gains. absurd (no_gain path before.files after.files same gains);
      report_failed = λ guest report options path asked recording apart gains. absurd (no_gain report before.files after.files same gains);
      no_store_failed = λ calm. lacks;
    }

  paths_same : (old new : FilesState) → new ≡ old → new.failed_paths ≡ old.failed_paths
  paths_same old new same = ap (λ (f : FilesState). f.failed_paths) same

  contents_same : (old new : FilesState) → new ≡ old → new.contents ≡ old.contents
  contents_same old new same = ap (λ (f : FilesState). f.contents) same

  after_write : (ends : EndsBy words CannotWrite status before after) → status ≡ 4 → StandsAfterFault CannotWrite ends
  after_write ends four = by ends.reached.fails
    where
      told : GotFirst cannot_write_text ends.err after.err
      told = fault_text CannotWrite ends.err ends.told four refl (inl refl)

      by : FailsAtStore ends.reached.decision.outcome before (outside after.files after.out ends.err) ⊎ FailsOnOut ends.reached.decision.outcome before (outside after.files after.out ends.err) → StandsAfterFault CannotWrite ends
      by (inl fails) = after_store CannotWrite ends (inl refl) ends.reached.decision refl ends.reached.ran told fails
      by (inr fails) =
          after_put CannotWrite ends (inl refl) ends.reached.decision refl ends.reached.ran (part_on_out before after ends.err ends.reached.decision.outcome cannot_write_text told fails)
          (inl fails.out.faults) (paths_same before.files after.files fails.files) (inl (contents_same before.files after.files fails.files))

  after_put_on_err : (ends : EndsBy words CannotPut status before after) → status ≡ 4 → StandsAfterFault CannotPut ends
  after_put_on_err ends four = by ends.reached.fails
    where
      told : GotFirst cannot_write_text ends.err after.err
      told = fault_text CannotPut ends.err ends.told four refl (inr refl)

      rose : FailsOnErr ends.reached.decision.outcome before (outside after.files after.out ends.err) ⊎ FailsAtStats ends.reached.decision.outcome before (outside after.files after.out ends.err) → Rose before.err.faults after.err.faults
      rose fails = last ends.told
        where
          last : LastText CannotPut status ends.err after.err → Rose before.err.faults after.err.faults
          last (inl tells) = still words status before after ends.err tells.text (err_rose words status before after ends.reached.decision.outcome ends.err fails)
          last (inr wants) = absurd (omega (arith, four, wants.status_is))

      by : FailsOnErr ends.reached.decision.outcome before (outside after.files after.out ends.err) ⊎ FailsAtStats ends.reached.decision.outcome before (outside after.files after.out ends.err) → StandsAfterFault CannotPut ends
      by (inl fails) =
          after_put CannotPut ends (inr refl) ends.reached.decision refl ends.reached.ran (part_on_err before after ends.err ends.reached.decision.outcome cannot_write_text told fails)
          (inr (rose (inl fails))) (paths_same before.files after.files fails.files) (inl (contents_same before.files after.files fails.files))
      by (inr fails) =
          after_put CannotPut ends (inr refl) ends.reached.decision refl ends.reached.ran (part_at_stats before after ends.err ends.reached.decision.outcome cannot_write_text told fails)
          (inr (rose (inr fails))) (ap (λ (f : FilesState). f.failed_paths) fails.files ∙ with_stores-paths ends.reached.decision.outcome.stores before.files)
          (inr (record {
            asked = fails.err.some;
            failed = rose (inr fails);
            output = output_came before after ends.err ends.reached.decision.outcome cannot_write_text told fails.out (take fails.err.count ends.reached.decision.outcome.stats) (stats_came before after ends.err ends.reached.decision.outcome cannot_write_text told fails);
            files = ap (λ (f : FilesState). f.contents) fails.files;
          }))

  after_fault : (end : End) (ends : EndsBy words end status before after) → status ≡ 4 → StandsAfterFault end ends
  after_fault (Decided verdict) ends four = absurd ((written_status verdict 4 (is_this words status before after (Decided verdict) 4 ends four (λ e. omega (arith, e)))).could_write (omega arith))
  after_fault (CannotRead path) ends four = absurd (let e = is_this words status before after (CannotRead path) 4 ends four (λ e. omega (arith, e)) in omega (arith, e))
  after_fault CannotWrite ends four = after_write ends four
  after_fault CannotPut ends four = after_put_on_err ends four
  after_fault OutOfMemory ends four = absurd (let e = is_this words status before after OutOfMemory 4 ends four (λ e. omega (arith, e)) in omega (arith, e))

  -- memory ran out before the last text, where this was decided and `err` stood so
  abbrev Stops : Option (Decision words before.files after.files) → SinkState → Type 0
  Stops decided mid = MatchOption decided (outside after.files after.out mid ≡ before) (λ decision. StopsShort decision.outcome before (outside after.files after.out mid))

  -- ---- status 10
  -- its text came, or a first part of it, or nothing
  memory_text : (end : End) (mid : SinkState) → LastText end status mid after.err → status ≡ 10 → GotFirst out_of_memory_text mid after.err
  memory_text end mid (inr wants) ten = by wants.text
    where
      by : (after.err ≡ mid) ⊎ (IsMade end × IsPut out_of_memory_text mid after.err) → GotFirst out_of_memory_text mid after.err
      by (inl same) = no_text out_of_memory_text mid after.err same
      by (inr (made, put)) = put_part out_of_memory_text mid after.err put
  memory_text (Decided verdict) mid (inl tells) ten = absurd ((written_status verdict 10 (sym ten ∙ tells.status_is)).had_memory refl)
  memory_text (CannotRead path) mid (inl tells) ten = absurd (omega (arith, ten, tells.status_is))
  memory_text CannotWrite mid (inl tells) ten = absurd (omega (arith, ten, tells.status_is))
  memory_text CannotPut mid (inl tells) ten = absurd (omega (arith, ten, tells.status_is))
  memory_text OutOfMemory mid (inl tells) ten = put_part out_of_memory_text mid after.err tells.text

  -- what is left then, where this was decided
  abbrev Leaves : Option (Decision words before.files after.files) → Type 0
  Leaves decided = MatchOption decided (LeavesText out_of_memory_text before after) (λ decision. LeavesPart decision.outcome out_of_memory_text before after)

  leaves : (end : End) (ends : EndsBy words end status before after) → GotFirst out_of_memory_text ends.err after.err → Leaves (decision_of end ends)
  leaves (Decided verdict) ends told = part_done before after ends.err ends.reached.0.outcome out_of_memory_text told ends.reached.2
  leaves (CannotRead path) ends told = text_alone before after ends.err out_of_memory_text told ends.reached.out ends.reached.err ends.reached.contents
  leaves CannotWrite ends told = by ends.reached.fails
    where
      by : FailsAtStore ends.reached.decision.outcome before (outside after.files after.out ends.err) ⊎ FailsOnOut ends.reached.decision.outcome before (outside after.files after.out ends.err) → LeavesPart ends.reached.decision.outcome out_of_memory_text before after
      by (inl fails) = part_at_store before after ends.err ends.reached.decision.outcome out_of_memory_text told fails
      by (inr fails) = part_on_out before after ends.err ends.reached.decision.outcome out_of_memory_text told fails
  leaves CannotPut ends told = by ends.reached.fails
    where
      by : FailsOnErr ends.reached.decision.outcome before (outside after.files after.out ends.err) ⊎ FailsAtStats ends.reached.decision.outcome before (outside after.files after.out ends.err) → LeavesPart ends.reached.decision.outcome out_of_memory_text before after
      by (inl fails) = part_on_err before after ends.err ends.reached.decision.outcome out_of_memory_text told fails
      by (inr fails) = part_at_stats before after ends.err ends.reached.decision.outcome out_of_memory_text told fails
  leaves OutOfMemory ends told = by ends.reached.decision ends.reached.done
    where
      by : (decided : Option (Decision words before.files after.files)) → Stops decided ends.err → Leaves decided
      by None same = text_alone before after ends.err out_of_memory_text told (ap (λ (o : Outside). o.out) same) (ap (λ (o : Outside). o.err) same) (ap (λ (o : Outside). o.files.contents) same)
      by (Some decision) short = part_short before after ends.err decision.outcome out_of_memory_text told short

  -- nothing failed, or the last text was another's
  abbrev Calm : End → Type 0
  Calm end = IsCalm out_of_memory_text before after ⊎ ((end ≡ OutOfMemory → ⊥) × (0 < length (end_text end)))

  wanted : (end : End) → EndsBy words end status before after → status ≡ 10 → (end ≡ OutOfMemory → ⊥) → Calm end
  wanted end ends ten other = by ends.told
    where
      by : LastText end status ends.err after.err → Calm end
      by (inr wants) = inr (other, wants.some)
      by (inl tells) = absurd (other (is_memory end (sym tells.status_is ∙ ten)))
        where
          is_memory : (e : End) → end_status e ≡ 10 → e ≡ OutOfMemory
          is_memory (Decided verdict) is = absurd ((written_status verdict 10 (sym is)).had_memory refl)
          is_memory (CannotRead path) is = absurd (omega (arith, is))
          is_memory CannotWrite is = absurd (omega (arith, is))
          is_memory CannotPut is = absurd (omega (arith, is))
          is_memory OutOfMemory is = refl

  calm : (end : End) → EndsBy words end status before after → status ≡ 10 → Calm end
  calm (Decided verdict) ends ten = wanted (Decided verdict) ends ten (λ e. cc e)
  calm (CannotRead path) ends ten = wanted (CannotRead path) ends ten (λ e. cc e)
  calm CannotWrite ends ten = wanted CannotWrite ends ten (λ e. cc e)
  calm CannotPut ends ten = wanted CannotPut ends ten (λ e. cc e)
  calm OutOfMemory ends ten = inl (by ends.reached.decision ends.reached.done)
    where
      -- the put of the text went, or failed
      text_calm : (front : List ℕ) → ends.err ≡ appended before.err front → LastText OutOfMemory status ends.err after.err
          → (after.err.faults ≡ before.err.faults) ⊎ ((before_it : List ℕ) × FailsToAppend out_of_memory_text (appended before.err before_it) after.err)
      text_calm front grown (inl tells) = put tells.text
        where
          put : IsPut out_of_memory_text ends.err after.err → (after.err.faults ≡ before.err.faults) ⊎ ((before_it : List ℕ) × FailsToAppend out_of_memory_text (appended before.err before_it) after.err)
          put (inl same) = inl (ap (λ (s : SinkState). s.faults) same ∙ ap (λ (s : SinkState). s.faults) grown)
          put (inr (some, fails)) = inr (front, subst (λ (s : SinkState). FailsToAppend out_of_memory_text s after.err) grown fails)
      text_calm front grown (inr wants) = kept wants.text
        where
          kept : (after.err ≡ ends.err) ⊎ (IsMade OutOfMemory × IsPut out_of_memory_text ends.err after.err)
              → (after.err.faults ≡ before.err.faults) ⊎ ((before_it : List ℕ) × FailsToAppend out_of_memory_text (appended before.err before_it) after.err)
          kept (inl same) = inl (ap (λ (s : SinkState). s.faults) same ∙ ap (λ (s : SinkState). s.faults) grown)
          kept (inr (made, put)) = absurd made

      by : (decided : Option (Decision words before.files after.files)) → Stops decided ends.err → IsCalm out_of_memory_text before after
      by None same = record {
        files = ap (λ (o : Outside). o.files.faults) same;
        out = ap (λ (o : Outside). o.out.faults) same;
        err = text_calm [] (ap (λ (o : Outside). o.err) same ∙ appended-nothing before.err) ends.told;
      }
      by (Some decision) short = record {
        files = ap (λ (f : FilesState). f.faults) short.files ∙ with_stores-faults (take short.count decision.outcome.stores) before.files;
        out = ap (λ (s : SinkState). s.faults) short.out;
        err = text_calm (put_on channel.Err short.earlier) short.err ends.told;
      }

  -- ---- the other statuses
  after_decided : (verdict : Verdict) (ends : EndsBy words (Decided verdict) status before after) → IsWritten status → StandsAfterAll (Decided verdict) ends
  after_decided verdict ends written = record {
    decision = ends.reached.0;
    is_of_end = refl;
    end_is = ap Decided (sym ends.reached.1);
    status_is = status_of ends.told;
    out = ap (λ (s : SinkState). s.bytes) ends.reached.2.out;
    err = record {
      count = text.0;
      gained = text.1 ∙ ap (λ known. append_known known (take text.0 (verdict_text verdict))) came
          ∙ gains_more before.err.bytes (err_of ends.reached.0.outcome ++ ends.reached.0.outcome.stats) (take text.0 (verdict_text verdict))
          ∙ ap (λ v. append_known before.err.bytes ((err_of ends.reached.0.outcome ++ ends.reached.0.outcome.stats) ++ take text.0 (verdict_text v))) (sym ends.reached.1);
    };
    files = done-contents ends.reached.0.outcome before (outside after.files after.out ends.err) ends.reached.2;
  }
    where
      status_of : LastText (Decided verdict) status ends.err after.err → status ≡ verdict_status ends.reached.0.outcome.verdict
      status_of (inl tells) = tells.status_is ∙ ap verdict_status (sym ends.reached.1)
      status_of (inr wants) = absurd (written.had_memory wants.status_is)

      came : ends.err.bytes ≡ append_known before.err.bytes (err_of ends.reached.0.outcome ++ ends.reached.0.outcome.stats)
      came = ap (λ (s : SinkState). s.bytes) ends.reached.2.err ∙ gains_more before.err.bytes (err_of ends.reached.0.outcome) ends.reached.0.outcome.stats

      text : GotFirst (end_text (Decided verdict)) ends.err after.err
      text = by ends.told
        where
          by : LastText (Decided verdict) status ends.err after.err → GotFirst (end_text (Decided verdict)) ends.err after.err
          by (inl tells) = put_part (end_text (Decided verdict)) ends.err after.err tells.text
          by (inr wants) = absurd (written.had_memory wants.status_is)

  after_all : (end : End) (ends : EndsBy words end status before after) → IsWritten status → StandsAfterAll end ends
  after_all (Decided verdict) ends written = after_decided verdict ends written
  after_all (CannotRead path) ends written = absurd (written.could_read (own words status before after (CannotRead path) ends written.had_memory))
  after_all CannotWrite ends written = absurd (written.could_write (own words status before after CannotWrite ends written.had_memory))
  after_all CannotPut ends written = absurd (written.could_write (own words status before after CannotPut ends written.had_memory))
  after_all OutOfMemory ends written = absurd (written.had_memory (own words status before after OutOfMemory ends written.had_memory))

  -- what `err` got before the last text, where no put on it failed
  grew : (end : End) (mid : SinkState) → (end ≡ CannotPut → ⊥) → Reaches words end before (outside after.files after.out mid) → (front : List ℕ) × (mid ≡ appended before.err front)
  grew (Decided verdict) mid other (decision, same, does) = (err_of decision.outcome ++ decision.outcome.stats, does.err ∙ appended-more before.err (err_of decision.outcome) decision.outcome.stats)
  grew (CannotRead path) mid other reached = ([], reached.err ∙ appended-nothing before.err)
  grew CannotWrite mid other reached = by reached.fails
    where
      by : FailsAtStore reached.decision.outcome before (outside after.files after.out mid) ⊎ FailsOnOut reached.decision.outcome before (outside after.files after.out mid) → (front : List ℕ) × (mid ≡ appended before.err front)
      by (inl fails) = (err_of reached.decision.outcome, fails.output.err)
      by (inr fails) = (put_on channel.Err fails.earlier, fails.err)
  grew CannotPut mid other reached = absurd (other refl)
  grew OutOfMemory mid other reached = by reached.decision reached.done
    where
      by : (decided : Option (Decision words before.files after.files)) → Stops decided mid → (front : List ℕ) × (mid ≡ appended before.err front)
      by None same = ([], ap (λ (o : Outside). o.err) same ∙ appended-nothing before.err)
      by (Some decision) short = (put_on channel.Err short.earlier, short.err)

  -- the last text came whole, where no put on `err` failed
  module _ (end : End) (ends : EndsBy words end status before after) (quiet : Rose before.err.faults after.err.faults → ⊥) where
    came_whole : (end ≡ CannotPut → ⊥) → status ≡ end_status end → (front : List ℕ) × (ends.err ≡ appended before.err front) → IsPut (end_text end) ends.err after.err → IsTold end status before after
    came_whole other is (front, grown) (inl put) = record {
      status_is = is;
      not_silent = other;
      text = (front, ap (λ (s : SinkState). s.bytes) put ∙ ap (λ (s : SinkState). append_known s.bytes (end_text end)) grown ∙ gains_more before.err.bytes front (end_text end));
    }
    came_whole other is (front, grown) (inr (some, fails)) = absurd (quiet (subst (λ (s : SinkState). Rose s.faults after.err.faults) grown fails.faults))

    told_of : (end ≡ CannotPut → ⊥) → (status ≡ 10 → ⊥) → IsTold end status before after
    told_of other had_memory = by ends.told
      where
        by : LastText end status ends.err after.err → IsTold end status before after
        by (inl tells) = came_whole other tells.status_is (grew end ends.err other ends.reached) tells.text
        by (inr wants) = absurd (had_memory wants.status_is)

  -- after a failed put on `err` nothing is told
  silent : (ends : EndsBy words CannotPut status before after) → (Rose before.err.faults after.err.faults → ⊥) → (status ≡ 10 → ⊥) → ⊥
  silent ends quiet had_memory = by ends.told
    where
      by : LastText CannotPut status ends.err after.err → ⊥
      by (inl tells) = quiet (still words status before after ends.err tells.text (err_rose words status before after ends.reached.decision.outcome ends.err ends.reached.fails))
      by (inr wants) = had_memory wants.status_is

  is_told : (end : End) → EndsBy words end status before after → (status ≡ 10 → ⊥) → (Rose before.err.faults after.err.faults → ⊥) → IsTold end status before after
  is_told (Decided verdict) ends had_memory quiet = told_of (Decided verdict) ends quiet (λ e. cc e) had_memory
  is_told (CannotRead path) ends had_memory quiet = told_of (CannotRead path) ends quiet (λ e. cc e) had_memory
  is_told CannotWrite ends had_memory quiet = told_of CannotWrite ends quiet (λ e. cc e) had_memory
  is_told OutOfMemory ends had_memory quiet = told_of OutOfMemory ends quiet (λ e. cc e) had_memory
  is_told CannotPut ends had_memory quiet = absurd (silent ends quiet had_memory)

  -- ---- status 2
  unread : (end : End) (ends : EndsBy words end status before after) → status ≡ 2 → StandsUnread end ends
  unread (Decided verdict) ends two = absurd ((written_status verdict 2 (is_this words status before after (Decided verdict) 2 ends two (λ e. omega (arith, e)))).could_read (omega arith))
  unread CannotWrite ends two = absurd (let e = is_this words status before after CannotWrite 2 ends two (λ e. omega (arith, e)) in omega (arith, e))
  unread CannotPut ends two = absurd (let e = is_this words status before after CannotPut 2 ends two (λ e. omega (arith, e)) in omega (arith, e))
  unread OutOfMemory ends two = absurd (let e = is_this words status before after OutOfMemory 2 ends two (λ e. omega (arith, e)) in omega (arith, e))
  unread (CannotRead path) ends two = record {
    path = path;
    end_is = refl;
    found = ends.reached.found;
    is_of_end = refl;
    undecided = ends.reached.undecided;
    next = ends.reached.next;
    failed = ends.reached.failed;
    leaves = text_alone before after ends.err (cannot_read_text path) (text ends.told) ends.reached.out ends.reached.err ends.reached.contents;
  }
    where
      text : LastText (CannotRead path) status ends.err after.err → GotFirst (cannot_read_text path) ends.err after.err
      text (inl tells) = put_part (cannot_read_text path) ends.err after.err tells.text
      text (inr wants) = absurd (omega (arith, two, wants.status_is))

  -- what stands, where the call ended so
  pub Stands-from_end : (end : End) → EndsBy words end status before after → Stands words status before after
  Stands-from_end end ends = record {
    end = end;
    ends = ends;
    all = after_all end ends;
    unread = unread end ends;
    fault = after_fault end ends;
    memory = λ ten. record { leaves = leaves end ends (memory_text end ends.err ends.told ten); calm = calm end ends ten };
    told = is_told end ends;
  }
