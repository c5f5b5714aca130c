-- From the loads of a command and what it does with them to how it ends.
use Rattle.std.proofs.Common.{◌∙◌, ◌≡◌, ◌⊎◌, ℕ, ◌<◌, Bool, true, false, cond, List, [], ◌∷◌, Some, None, Err, refl, sym, ap, subst, inl, inr, arith, length, slice_get, append-nil}
use Rattle.std.specs.Prelude.{nat_lt}
use Rattle.std.specs.List.{list_any}
use Rattle.std.proofs.lemmas.Bool.Decides.{nat_tests}
use Rattle.std.proofs.lemmas.List.{length-map}
use Rattle.std.proofs.lemmas.Option.{slice_get_within}
use Rattle.command_line.specs.Options.{Asked, AsksFor, has_zero}
use Rattle.guest_kernel.specs.declared.channel.Channel.TheVariants as channel
use Rattle.host_io.specs.Files.{FilesState}
use Rattle.host_io.specs.Sink.{PutEnds, SinkState, appended}
use Rattle.host_io.specs.declared.sink.PutError.{PutError}
use Rattle.host_io.specs.declared.sink.PutError.TheVariants as refused
use Rattle.command_line.proofs.Refusals.{no_zero}
use Rattle.command_line.specs.declared.commands.CommandError.{CommandError}
use Rattle.command_line.specs.declared.commands.CommandError.TheVariants as command
use Rattle.aprof_top.specs.declared.ending.CommandEnding.{CommandEnding}
use Rattle.aprof_top.specs.declared.ending.CommandEnding.TheVariants.{CannotRead, Ended}
use Rattle.aprof_top.specs.declared.ending.Ending as declared
use Rattle.aprof_top.specs.declared.ending.Ending.TheVariants as ending
use Rattle.aprof_top.specs.declared.ending.Verdict as verdicts
use Rattle.aprof_top.specs.declared.ending.Verdict.TheVariants as verdict
use Rattle.aprof_top.specs.Private.Ending.{AskedEnds, end_of, ended, of_command, of_put}
use Rattle.aprof_top.specs.Ends.{Reaches}
use Rattle.aprof_top.specs.Ends.End.{Decided}
use Rattle.aprof_top.specs.Found.{Decision, Found}
use Rattle.aprof_top.specs.Private.Loading.{LoadsAll, LoadsEnd}
use Rattle.aprof_top.specs.Loads.{Load, Loaded, loaded_of, loads_of, passes_limit, paths_in}
use Rattle.aprof_top.specs.Outcome.{Follows, IsAnswer, IsDemo, IsOutcome, Outcome, refusal, stage}
use Rattle.aprof_top.specs.Outcome.Stage.{Complete, Loading, PastLimit}
use Rattle.aprof_top.specs.Delivery.{FailsWithin}
use Rattle.aprof_top.specs.Outside.{MetTooLong, Outside, outside}
use Rattle.aprof_top.specs.Private.Jobs.{HandsOut, summed}
use Rattle.aprof_top.proofs.Sinks.{appended-nothing}

-- ---- where the loads stand
stage_by : (loads : List Load) (files : List (List ℕ)) (past more : Bool) → passes_limit loads files ≡ past → nat_lt (length files) (length loads) ≡ more → stage loads files ≡ cond past PastLimit (cond more Loading Complete)
stage_by loads files past more p m = rw p (rw m refl)

past_stage : (loads : List Load) (files : List (List ℕ)) → passes_limit loads files ≡ true → stage loads files ≡ PastLimit
past_stage loads files many = rw many refl

loading_stage : (loads : List Load) (files : List (List ℕ)) (path : List ℕ) → passes_limit loads files ≡ false → slice_get (paths_in loads) (length files) ≡ Some path → stage loads files ≡ Loading
loading_stage loads files path few next =
    stage_by loads files false true few (test (length files) (length loads) (subst (λ n. length files < n) (length-map loads (λ (load : Load). load.path)) (slice_get_within (paths_in loads) (length files) path next)))
  where
    test : (a b : ℕ) → a < b → nat_lt a b ≡ true
    test a b less = grind (arith, nat_tests, less)

pub complete_stage : (loads : List Load) (files : List (List ℕ)) → passes_limit loads files ≡ false → length files ≡ length loads → stage loads files ≡ Complete
complete_stage loads files few all =
    stage_by loads files false false few (test (length files) (length loads) all)
  where
    test : (a b : ℕ) → a ≡ b → nat_lt a b ≡ false
    test a b same = grind (arith, nat_tests, same)

-- ---- refusals
-- a verdict that stores nothing was reached, and the sinks are untouched
refused_by : (words : List (List ℕ)) (v : verdicts.Verdict) (files now : FilesState) (out err : SinkState) (found : Found words files now) → IsOutcome found.asked found.files (refusal v) → (now ≡ files) ⊎ ((v ≡ verdict.TooLarge) × MetTooLong files now) → Reaches words (Decided v) (outside files out err) (outside now out err)
refused_by words v files now out err found written unchanged = (
  record { found = found; outcome = refusal v; written = written },
  refl,
  record { out = appended-nothing out; err = appended-nothing err ∙ appended-nothing (appended err []); stored = unchanged },
)

-- the words are refused
Reaches-bad_command : (words : List (List ℕ)) (files : FilesState) (out err : SinkState) → AsksFor words None → Reaches words (Decided verdict.BadCommand) (outside files out err) (outside files out err)
Reaches-bad_command words files out err asks =
    refused_by words verdict.BadCommand files files out err (record { asked = None; asks = asks; files = []; held = tt; limit = inl tt }) refl (inl refl)

-- no command was made of the words
pub Reaches-unread : (words : List (List ℕ)) (e : CommandError) (outside' : Outside) → (e ≡ command.Refused → AsksFor words None) → (e ≡ command.Memory → list_any has_zero words ≡ false) → Reaches words (ended (of_command e)) outside' outside'
Reaches-unread words command.Refused o asks zero = Reaches-bad_command words o.files o.out o.err (asks refl)
Reaches-unread words command.Memory o asks zero = record { no_zero = zero refl; decision = None; done = refl }

-- ---- a command: before its loads and after them; its sinks are untouched
module _ (asked : Asked) (files mid : FilesState) (out err : SinkState) where
  abbrev before : Outside
  before = outside files out err

  abbrev between : Outside
  between = outside mid out err

  abbrev loads : List Load
  loads = loads_of asked

  -- the loads ended it
  pub AskedEnds-unloaded : (e : CommandEnding) → LoadsEnd loads files mid e → AskedEnds asked before between (end_of e)
  AskedEnds-unloaded (CannotRead load) fails words asks = record {
    found = record { asked = Some asked; asks = asks; files = fails.files; held = fails.first.held; limit = inl fails.first.each };
    undecided = loading_stage loads fails.files load.path.now fails.first.few fails.next;
    next = fails.next;
    failed = fails.failed;
    contents = fails.contents;
    out = refl;
    err = refl;
  }
  AskedEnds-unloaded (Ended (ending.Decided why)) (too_large, passes) words asks =
      refused_by words why files mid out err
      (record { asked = Some asked; asks = asks; files = passes.files; held = passes.held; limit = passes.limit })
      (subst (λ s. Follows (IsAnswer asked (loaded_of loads passes.files)) (refusal why) s) (sym (past_stage loads passes.files passes.many)) (ap refusal too_large))
      (by passes.unchanged)
    where
      by : (mid ≡ files) ⊎ MetTooLong files mid → (mid ≡ files) ⊎ ((why ≡ verdict.TooLarge) × MetTooLong files mid)
      by (inl same) = inl same
      by (inr met) = inr (too_large, met)
  AskedEnds-unloaded (Ended ending.CannotWrite) fails words asks = absurd fails
  AskedEnds-unloaded (Ended ending.CannotPut) fails words asks = absurd fails
  AskedEnds-unloaded (Ended ending.OutOfMemory) same words asks = record { no_zero = no_zero words asked asks; decision = None; done = ap (λ f. outside f out err) same }

  -- all was loaded
  module _ (loaded : Loaded) (all : LoadsAll loads files mid loaded) where
    abbrev Is : Outcome → Type 0
    Is = IsAnswer asked loaded

    abbrev decision : (words : List (List ℕ)) (after : Outside) (outcome : Outcome) → AsksFor words (Some asked) → Is outcome → Decision words files after.files
    decision words after outcome asks is = record {
      found = record { asked = Some asked; asks = asks; files = all.files; held = all.first.held; limit = inl all.first.each };
      outcome = outcome;
      written = subst (λ s. Follows (IsAnswer asked (loaded_of loads all.files)) outcome s) (sym (complete_stage loads all.files all.first.few all.all)) (subst (λ files. IsAnswer asked files outcome) all.loaded_is is);
    }

    handed : (after : Outside) (e : declared.Ending) → HandsOut Is before after e → AskedEnds asked before after (ended e)
    handed after (ending.Decided v) hands words asks = (decision words after hands.outcome asks hands.is, hands.delivered.0, hands.delivered.1)
    handed after ending.CannotWrite hands words asks = record { decision = decision words after hands.outcome asks hands.is; ran = hands.delivered.0; fails = hands.delivered.1 }
    handed after ending.CannotPut hands words asks = record { decision = decision words after hands.outcome asks hands.is; ran = hands.delivered.0; fails = hands.delivered.1 }
    handed after ending.OutOfMemory (inl same) words asks = record { no_zero = no_zero words asked asks; decision = None; done = same }
    handed after ending.OutOfMemory (inr hands) words asks = record { no_zero = no_zero words asked asks; decision = Some (decision words after hands.outcome asks hands.is); done = hands.delivered }

    -- and what is asked was done
    pub AskedEnds-done : (after : Outside) (e : declared.Ending) → HandsOut Is between after e → AskedEnds asked before after (ended e)
    AskedEnds-done after e hands = handed after e (subst (λ f. HandsOut Is (outside f out err) after e) all.same hands)

-- ---- the demo
-- it has no summary only when out of memory
pub HandsOut-unshown : (number : ℕ) (before : Outside) (e : declared.Ending) → e ≡ ending.OutOfMemory → HandsOut (IsDemo number) before before e
HandsOut-unshown number before e is = subst (HandsOut (IsDemo number) before before) (sym is) (inl refl)

-- its summary was put, or that failed
module _ (number : ℕ) (summary : List ℕ) (files : FilesState) (out new err : SinkState) (is_demo : IsDemo number (summed summary)) where
  pub HandsOut-put : new ≡ appended out summary → HandsOut (IsDemo number) (outside files out err) (outside files new err) (ending.Decided verdict.Done)
  HandsOut-put gained = record {
    outcome = summed summary;
    is = is_demo;
    delivered = (
      refl,
      record { out = gained ∙ ap (appended out) (sym (append-nil summary)); err = appended-nothing err ∙ appended-nothing (appended err []); stored = inl refl },
    );
  }

  pub HandsOut-unput : (e : PutError) → PutEnds summary out new (Err e) → 0 < length summary → HandsOut (IsDemo number) (outside files out err) (outside files new err) (of_put e)
  HandsOut-unput refused.Failed fails some = record {
    outcome = summed summary;
    is = is_demo;
    delivered = (
      tt,
      inr (record {
        earlier = [];
        bytes = summary;
        later = [];
        are = refl;
        out = subst (λ (s : SinkState). FailsWithin summary s new) (appended-nothing out) (record { some = some; faults = fails.faults; count = fails.front; gained = fails.gained });
        err = appended-nothing err;
        files = refl;
      }),
    );
  }
  HandsOut-unput refused.Memory same some = inr (record {
    outcome = summed summary;
    is = is_demo;
    delivered = record {
      earlier = [];
      later = (channel.Out, summary) ∷ [];
      are = refl;
      out = same ∙ appended-nothing out;
      err = appended-nothing err;
      count = 0;
      files = refl;
      output_first = inr refl;
    };
  })
