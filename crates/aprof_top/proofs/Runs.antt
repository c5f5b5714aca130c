-- What the run of a command's files comes to.
use Rattle.std.proofs.Common.{◌≡◌, IfSome, Ok, arith, ℕ, Bool, List, [], Option, Some, None, Result, Err, ◌≤◌, ◌+◌, refl, sym, ap, ap₂, ◌∙◌, ◌⊎◌, subst, inl, inr}
use Rattle.std.proofs.lemmas.List.{append-nil}
use Rattle.std.specs.List.{AllByRecursion}
use Rattle.guest_words.specs.declared.limits.TheConstants.{RUN_STEPS}
use Rattle.trace_model.specs.declared.event_kinds.Event.{Event}
use Rattle.trace_model.specs.WellFormed.{IsLight, IsWellFormed}
use Rattle.command_line.specs.Options.{GuestOptions, arguments}
use Rattle.elf_image.specs.Image.{Executable}
use Rattle.elf_image.specs.Reading.{image_of}
use Rattle.elf_image.specs.Tests.{first_refusal}
use Rattle.guest_kernel.specs.Inputs.{Input}
use Rattle.guest_machine.specs.declared.setup.SetupError.{SetupError}
use Rattle.guest_machine.specs.Setup.{setup_refusal}
use Rattle.guest_machine.specs.Start.{start}
use Rattle.guest_run.specs.Laws.{scheduler}
use Rattle.guest_run.specs.Output.{Sinks, with_output}
use Rattle.guest_run.specs.RunEnds.{IsGivenUp}
use Rattle.guest_run.specs.ObservedRun.{ObservedRun, first_past}
use Rattle.guest_run.specs.Run.{Move}
use Rattle.guest_run.proofs.Formed.{every_run_formed}
use Rattle.guest_run.proofs.Weights.{every_run_light}
use Rattle.host_io.specs.Files.{FilesState}
use Rattle.host_io.specs.Sink.{SinkState, appended}
use Rattle.thread_sched.specs.declared.entry.Entry.{Entry}
use Rattle.thread_sched.specs.ScheduleText.{IsBadLine, IsEntry, IsText}
use Rattle.aprof_top.specs.declared.ending.Ending as declared
use Rattle.aprof_top.specs.declared.ending.Ending.TheVariants as ending
use Rattle.aprof_top.specs.declared.ending.Verdict.{Verdict}
use Rattle.aprof_top.specs.declared.ending.Verdict.TheVariants.{BadImage, BadSchedule, TooLarge}
use Rattle.aprof_top.specs.Private.Preparing.{Refuses}
use Rattle.aprof_top.specs.Private.Jobs.{FilesRun, IsSetupRefused, RunIsStored, RunStops, desk, ending_by}
use Rattle.aprof_top.specs.Delivery.{FailsWithin, PutsOutput}
use Rattle.aprof_top.specs.Loads.{Loaded}
use Rattle.aprof_top.specs.Outcome.{ByImage, IsRun, IsScheduled, Job, Outcome, begun_outcome, refusal, writes_of}
use Rattle.aprof_top.specs.Outside.{Outside, outside}
use Rattle.aprof_top.specs.Run.{first_state, observed_from}
use Rattle.aprof_top.specs.Schedules.Reading.{BadLine, Turns}
use Rattle.aprof_top.specs.Verdicts.{IsOfRun}
use Rattle.guest_run.proofs.Lines.{IsCounted, observed_counted}
use Rattle.aprof_top.proofs.Handed.{fails_on_err, fails_on_out, puts_all, stops_short}
use Rattle.aprof_top.proofs.Sinks.{appended-nothing}

module _ (job : Job) (loaded : Loaded) where
  module _ (accepted : first_refusal loaded.image ≡ None) where
    accepts : (outcome : Outcome) → IsScheduled job loaded outcome → IsRun job loaded outcome
    accepts outcome scheduled = subst (λ o. ByImage job loaded outcome o) (sym accepted) scheduled

    pub IsRun-bad_line : (line : ℕ) → IsBadLine loaded.schedule line → IsRun job loaded (refusal (BadSchedule line))
    IsRun-bad_line line bad = accepts (refusal (BadSchedule line)) (record { reading = BadLine line; read = bad; answered = refl })

    module _ (turns : List Entry) (entries : AllByRecursion IsEntry turns) (text : IsText loaded.schedule turns) (image : Executable) (is : image ≡ image_of loaded.image) where
      refused_by : (o : Option SetupError) → IsSetupRefused o → refusal TooLarge ≡ begun_outcome job loaded turns o
      refused_by None refused = absurd refused
      refused_by (Some why) refused = refl

      pub IsRun-unbegun : IsSetupRefused (setup_refusal image (arguments job.guest)) → IsRun job loaded (refusal TooLarge)
      IsRun-unbegun refused = accepts (refusal TooLarge) (record {
        reading = Turns turns;
        read = (entries, text);
        answered = refused_by (setup_refusal (image_of loaded.image) (arguments job.guest)) (subst (λ i. IsSetupRefused (setup_refusal i (arguments job.guest))) is refused);
      })

      pub IsRun-run : setup_refusal image (arguments job.guest) ≡ None → (outcome : Outcome) → outcome ≡ job.leaves loaded turns → IsRun job loaded outcome
      IsRun-run begins outcome left = accepts outcome (record {
        reading = Turns turns;
        read = (entries, text);
        answered = left ∙ ap (begun_outcome job loaded turns) (sym begins ∙ ap (λ i. setup_refusal i (arguments job.guest)) is);
      })

-- the guest can begin
pub none_refused : {T : Type 0} (o : Option SetupError) (m : T) → IfSome o (λ why. Ok m ≡ Err why) → o ≡ None
none_refused None m same = refl
none_refused (Some why) m same = absurd (grind (arith, same))

-- what is observed of the run of the machine that began so
pub seen_by : (fits : List Event → Bool) (options : GuestOptions) (loaded : Loaded) (turns : List Entry) (image : Executable) (files : List Input) (stdin : List ℕ) → image ≡ image_of loaded.image → files ≡ loaded.inputs → stdin ≡ loaded.stdin → observed_from fits options turns image.entry (start image (arguments options) files stdin) ≡ observed_from fits options turns (image_of loaded.image).entry (first_state options loaded)
unfolding first_state
seen_by fits options loaded turns image files stdin is files_are stdin_is =
    ap (λ i. observed_from fits options turns i.entry (start i (arguments options) files stdin)) is
    ∙ ap₂ (λ f s. observed_from fits options turns (image_of loaded.image).entry (start (image_of loaded.image) (arguments options) f s)) files_are stdin_is

-- a refusal is handed out by nothing
handed_refusal : (job : Job) (loaded : Loaded) (v : Verdict) (o : Outside) → IsRun job loaded (refusal v) → FilesRun job loaded o o (ending.Decided v)
handed_refusal job loaded v o is_run = record {
  outcome = refusal v;
  is = is_run;
  delivered = (refl, record { out = appended-nothing o.out; err = appended-nothing o.err ∙ appended-nothing (appended o.err []); stored = inl refl });
}

-- memory ran out when a run had come to its end: all of its output was put
pub stops_whole : (setup : Option SetupError) (moves : List Move) (before after : Sinks) → setup ≡ None → after ≡ with_output moves before
    → (after ≡ before) ⊎ ((setup ≡ None) × IsGivenUp moves before after)
stops_whole setup moves before after none output = inr (none, record { earlier = moves; later = []; are = append-nil moves; output = output })

-- files that are refused are run by nothing
FilesRun-refused : (job : Job) (loaded : Loaded) (o : Outside) (e : declared.Ending) → Refuses loaded e → FilesRun job loaded o o e
FilesRun-refused job loaded o (ending.Decided (BadImage e)) refused =
    handed_refusal job loaded (BadImage e) o (subst (λ why. ByImage job loaded (refusal (BadImage e)) why) (sym refused) refl)
FilesRun-refused job loaded o (ending.Decided (BadSchedule line)) (accepted, bad) = handed_refusal job loaded (BadSchedule line) o (IsRun-bad_line job loaded accepted line bad)
FilesRun-refused job loaded o _ refused = absurd refused

-- nor is a guest that could not be prepared
pub FilesRun-unprepared : (job : Job) (loaded : Loaded) (o : Outside) (e : declared.Ending) → Refuses loaded e ⊎ (e ≡ ending.OutOfMemory) → FilesRun job loaded o o e
FilesRun-unprepared job loaded o e (inl refused) = FilesRun-refused job loaded o e refused
FilesRun-unprepared job loaded o e (inr out_of_memory) = subst (FilesRun job loaded o o) (sym out_of_memory) (inl refl)

-- ---- the guest is run
module _ (job : Job) (loaded : Loaded) (accepted : first_refusal loaded.image ≡ None) (turns : List Entry) (entries : AllByRecursion IsEntry turns)
    (text : IsText loaded.schedule turns) (image : Executable) (is : image ≡ image_of loaded.image) (seen : ObservedRun) (outcome : Outcome) (left : outcome ≡ job.leaves loaded turns)
    (of_run : IsOfRun outcome.verdict) (writes_are : outcome.writes ≡ writes_of seen.moves)
    (files : FilesState) (before after : Sinks) where
  is_outcome : setup_refusal image (arguments job.guest) ≡ None → IsRun job loaded outcome
  is_outcome begins = IsRun-run job loaded accepted turns entries text image is begins outcome left

  -- it can't begin, or is given up
  pub FilesRun-given_up : (e : declared.Ending) → RunStops (setup_refusal image (arguments job.guest)) seen before after e →
      FilesRun job loaded (outside files before.out before.err) (outside files after.out after.err) e
  FilesRun-given_up (ending.Decided v) (large, refused, same) =
      subst (λ (s : Sinks). FilesRun job loaded (outside files before.out before.err) (outside files s.out s.err) (ending.Decided v)) (sym same)
      (handed_refusal job loaded v (outside files before.out before.err)
      (subst (λ w. IsRun job loaded (refusal w)) (sym large) (IsRun-unbegun job loaded accepted turns entries text image is refused)))
  FilesRun-given_up ending.CannotWrite (begins, stops) = record {
    outcome = outcome;
    is = is_outcome begins;
    delivered = (of_run, inr (fails_on_out outcome seen.moves writes_are files before after stops));
  }
  FilesRun-given_up ending.CannotPut (begins, stops) = record {
    outcome = outcome;
    is = is_outcome begins;
    delivered = (of_run, inl (fails_on_err outcome seen.moves writes_are files before after stops));
  }
  FilesRun-given_up ending.OutOfMemory (inl same) = inl (ap (λ (s : Sinks). outside files s.out s.err) same)
  FilesRun-given_up ending.OutOfMemory (inr (begins, gives)) = inr (record {
    outcome = outcome;
    is = is_outcome begins;
    delivered = stops_short outcome seen.moves writes_are files before after gives;
  })

  -- it came to its end, its files are stored, and its statistics are put
  module _ (begins : setup_refusal image (arguments job.guest) ≡ None) (whole : after ≡ with_output seen.moves before) (new : FilesState) (err : SinkState) where
    put : PutsOutput outcome (outside files before.out before.err) (outside new after.out after.err)
    put = puts_all outcome seen.moves writes_are files new before after whole

    pub FilesRun-stored : (result : Result Verdict declared.Ending) → RunIsStored outcome (desk files after.err) (desk new err) result →
        FilesRun job loaded (outside files before.out before.err) (outside new after.out err) (ending_by result)
    FilesRun-stored (Ok v) (same, done) = record {
      outcome = outcome;
      is = is_outcome begins;
      delivered = (
        same,
        record {
          out = put.out;
          err = done.stats ∙ ap (λ (s : SinkState). appended s outcome.stats) put.err;
          stored = inl done.stored;
        },
      );
    }
    FilesRun-stored (Err ending.CannotWrite) fails = record {
      outcome = outcome;
      is = is_outcome begins;
      delivered = (of_run, inl (record { output = record { out = put.out; err = fails.err ∙ put.err }; stored = fails.stored }));
    }
    FilesRun-stored (Err ending.CannotPut) fails = record {
      outcome = outcome;
      is = is_outcome begins;
      delivered = (
        of_run,
        inr (record {
          out = put.out;
          err = subst (λ (s : SinkState). FailsWithin outcome.stats s err) put.err fails.stats;
          files = fails.stored;
        }),
      );
    }
    FilesRun-stored (Err ending.OutOfMemory) fails =
        let put_err = fails.err ∙ put.err in
        inr (record {
          outcome = outcome;
          is = is_outcome begins;
          delivered = record {
            earlier = outcome.writes;
            later = [];
            are = append-nil outcome.writes;
            out = put.out;
            err = put_err;
            count = fails.stored.0;
            files = fails.stored.1;
            output_first = inl refl;
          };
        })
    FilesRun-stored (Err (ending.Decided v)) fails = absurd fails

-- what is observed is light
pub light_observed : (fits : List Event → Bool) (options : GuestOptions) (turns : List Entry) (image : Executable) (files : List Input) (stdin : List ℕ) → options.budget ≤ RUN_STEPS →
    IsLight (observed_from fits options turns image.entry (start image (arguments options) files stdin)).past
unfolding observed_from
light_observed fits options turns image files stdin few = every_run_light image (arguments options) files stdin fits (scheduler options.quantum turns) options.budget few

-- and well formed
pub formed_observed : (fits : List Event → Bool) (options : GuestOptions) (turns : List Entry) (image : Executable) (files : List Input) (stdin : List ℕ) → options.budget ≤ RUN_STEPS →
    IsWellFormed (observed_from fits options turns image.entry (start image (arguments options) files stdin)).past
unfolding observed_from
formed_observed fits options turns image files stdin few =
    (every_run_formed image (arguments options) files stdin fits (scheduler options.quantum turns) options.budget few).observed_part

-- and a line that it ends at is counted from 1
pub counted_observed : (fits : List Event → Bool) (options : GuestOptions) (turns : List Entry) (image : Executable) (files : List Input) (stdin : List ℕ) →
    IsCounted (1 + options.budget) (observed_from fits options turns image.entry (start image (arguments options) files stdin)).finish
unfolding observed_from
counted_observed fits options turns image files stdin =
    observed_counted fits (first_past image.entry) options.quantum turns options.budget (start image (arguments options) files stdin)
