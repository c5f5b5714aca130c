use Rattle.std.proofs.Common.{[], ◌∷◌, ◌++◌, ap, ◌∙◌, arith, reverse}
use Rattle.trace_model.specs.Profile.{done_of}
use Rattle.trace_model.proofs.Ended.{begun_at, ended_more}
use Rattle.trace_model.proofs.slow_profile.end_calls.Goals as goal

pub done_of-requires-clause-begun : goal.done_of-requires-clause-begun
done_of-requires-clause-begun c =
    begun_at c.args.trace.now c.args.tid c.args.calls.now c.loop-k.k _ c.requires.given (omega arith)

pub loop-k-preserved : goal.loop-k-preserved
loop-k-preserved c =
    c.in_ok-push.ensures.items
    ∙ ap (λ d. c.loop-k.done.items ++ d ∷ []) c.done_of.ensures
    ∙ ended_more (done_of (reverse c.args.trace.now) c.args.tid) c.args.done.now.items c.loop-k.done.items c.args.calls.now c.loop-k.k _
    (omega arith) c.loop-k.invariant
