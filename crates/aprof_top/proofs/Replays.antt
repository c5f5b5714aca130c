-- From the reading of a stored trace to how its command ends.
use Rattle.std.proofs.Common.{◌≡◌, ◌≢◌, ℕ, List, [], Result, Ok, Err, refl, sym, ap, ◌∙◌, subst, inl, inr, length, take}
use Rattle.command_line.specs.Options.{ReplayOptions}
use Rattle.guest_kernel.specs.declared.channel.Channel.TheVariants as channel
use Rattle.host_io.specs.Files.{FilesState}
use Rattle.host_io.specs.Sink.{SinkState, appended}
use Rattle.host_io.specs.declared.files.StoreError.{StoreError}
use Rattle.host_io.specs.declared.files.StoreError.TheVariants as store
use Rattle.std.proofs.Math.Seq.{take-length}
use Rattle.trace_file.specs.Reading.{IsTraceRefused}
use Rattle.trace_file.specs.declared.errors.TraceError.{TraceError}
use Rattle.trace_file.specs.declared.errors.TraceError.TheVariants as trace
use Rattle.trace_model.specs.declared.event_kinds.Event.{Event}
use Rattle.aprof_top.specs.declared.ending.Ending as declared
use Rattle.aprof_top.specs.declared.ending.Ending.TheVariants as ending
use Rattle.aprof_top.specs.declared.ending.Verdict.{Verdict}
use Rattle.aprof_top.specs.declared.ending.Verdict.TheVariants.{BadTrace}
use Rattle.aprof_top.specs.Delivery.{FailsWithin, StoreFails}
use Rattle.aprof_top.specs.Private.Ending.{of_store, of_trace}
use Rattle.aprof_top.specs.Private.Jobs.{HandsOut, RunIsStored, StatsEnd, StoresEnd, desk, ending_by}
use Rattle.aprof_top.specs.Outcome.{IsOfTrace, IsReplay, Outcome, err_of, out_of, put_on, refusal}
use Rattle.aprof_top.specs.Outside.{Outside, outside, with_stores}
use Rattle.aprof_top.specs.Verdicts.{IsOfRun}
use Rattle.aprof_top.proofs.Sinks.{appended-nothing}

-- ---- how the stores of an outcome end, and the put of its statistics
pub stores_unfinished : (outcome : Outcome) (stores : List (List ℕ × List ℕ)) → stores ≡ outcome.stores → (e : StoreError) (old new : FilesState) (err : SinkState) → StoresEnd stores old new (Err e)
    → RunIsStored outcome (desk old err) (desk new err) (Err (of_store e))
stores_unfinished outcome stores are store.Failed old new err fails = record { stored = subst (λ s. StoreFails s old new) are fails; err = refl }
stores_unfinished outcome stores are store.Memory old new err ends = record {
  stored = subst (λ s. (count : ℕ) × (new ≡ with_stores (take count s) old)) are ends;
  err = refl;
}

module _ (outcome : Outcome) (stores : List (List ℕ × List ℕ)) (are : stores ≡ outcome.stores) (old mid : FilesState) (err new : SinkState) (done : mid ≡ with_stores stores old) where
  all_stored : mid ≡ with_stores outcome.stores old
  all_stored = done ∙ ap (λ s. with_stores s old) are

  pub stats_unfinished : (e : declared.Ending) → StatsEnd outcome.stats err new (Err e) → RunIsStored outcome (desk old err) (desk mid new) (Err e)
  stats_unfinished ending.CannotPut fails = record { stored = all_stored; stats = fails }
  stats_unfinished ending.OutOfMemory same = record {
    stored = (length outcome.stores, all_stored ∙ ap (λ s. with_stores s old) (sym (take-length outcome.stores)));
    err = same;
  }
  stats_unfinished (ending.Decided v) fails = absurd fails
  stats_unfinished ending.CannotWrite fails = absurd fails

  pub stats_done : (v : Verdict) → outcome.verdict ≡ v → new ≡ appended err outcome.stats → RunIsStored outcome (desk old err) (desk mid new) (Ok v)
  stats_done v same put = (same, record { stored = all_stored; stats = put })

-- ---- the trace
module _ (options : ReplayOptions) (bytes : List ℕ) (files : FilesState) (out err : SinkState) where
  abbrev before : Outside
  before = outside files out err

  abbrev Is : Outcome → Type 0
  Is = IsReplay options bytes

  -- it is refused
  refused_trace : (past : List Event) (why : TraceError) → IsTraceRefused bytes past why → why ≢ trace.Memory → HandsOut Is before before (ending.Decided (BadTrace why))
  refused_trace past why refused no_memory = record {
    outcome = refusal (BadTrace why);
    is = inr (record { past = past; why = why; refused = refused; no_memory = no_memory; answered = refl });
    delivered = (refl, record { out = appended-nothing out; err = appended-nothing err ∙ appended-nothing (appended err []); stored = inl refl });
  }

  pub HandsOut-refused : (past : List Event) (why : TraceError) → IsTraceRefused bytes past why → HandsOut Is before before (of_trace why)
  HandsOut-refused past trace.Magic refused = refused_trace past trace.Magic refused (λ e. absurd (cc))
  HandsOut-refused past (trace.Record at) refused = refused_trace past (trace.Record at) refused (λ e. absurd (cc))
  HandsOut-refused past (trace.Order at) refused = refused_trace past (trace.Order at) refused (λ e. absurd (cc))
  HandsOut-refused past trace.Short refused = refused_trace past trace.Short refused (λ e. absurd (cc))
  HandsOut-refused past trace.Memory refused = inl refl

  -- it is one, and its outcome is stored; it has no output
  module _ (outcome : Outcome) (of_trace' : IsOfTrace options bytes outcome) (ran : IsOfRun outcome.verdict) (no_writes : outcome.writes ≡ []) (new : FilesState) (last : SinkState) where
    out_is : out ≡ appended out (out_of outcome)
    out_is = appended-nothing out ∙ ap (λ writes. appended out (put_on channel.Out writes)) (sym no_writes)

    err_is : err ≡ appended err (err_of outcome)
    err_is = appended-nothing err ∙ ap (λ writes. appended err (put_on channel.Err writes)) (sym no_writes)

    pub HandsOut-stored : (result : Result Verdict declared.Ending) → RunIsStored outcome (desk files err) (desk new last) result → HandsOut Is before (outside new out last) (ending_by result)
    HandsOut-stored (Ok v) (same, done) = record {
      outcome = outcome;
      is = inl of_trace';
      delivered = (
        same,
        record {
          out = out_is;
          err = done.stats ∙ ap (λ (s : SinkState). appended s outcome.stats) err_is;
          stored = inl done.stored;
        },
      );
    }
    HandsOut-stored (Err ending.CannotWrite) fails = record {
      outcome = outcome;
      is = inl of_trace';
      delivered = (ran, inl (record { output = record { out = out_is; err = fails.err ∙ err_is }; stored = fails.stored }));
    }
    HandsOut-stored (Err ending.CannotPut) fails = record {
      outcome = outcome;
      is = inl of_trace';
      delivered = (
        ran,
        inr (record {
          out = out_is;
          err = subst (λ (s : SinkState). FailsWithin outcome.stats s last) err_is fails.stats;
          files = fails.stored;
        }),
      );
    }
    HandsOut-stored (Err ending.OutOfMemory) fails = inr (record {
      outcome = outcome;
      is = inl of_trace';
      delivered = record {
        earlier = [];
        later = outcome.writes;
        are = refl;
        out = appended-nothing out;
        err = fails.err ∙ appended-nothing err;
        count = fails.stored.0;
        files = fails.stored.1;
        output_first = inl no_writes;
      };
    })
    HandsOut-stored (Err (ending.Decided v)) fails = absurd fails
