use Rattle.std.proofs.Common.{ℕ, List, reverse, take, ap, sym, ◌∙◌}
use Rattle.trace_model.specs.declared.activations.Activation.{Activation}
use Rattle.trace_model.specs.declared.event_kinds.Event.{Event}
use Rattle.trace_model.specs.Activations.{calls_after, open_calls}
use Rattle.trace_model.proofs.Ended.{length-reverse_take, reverse-take_more}
use Rattle.trace_model.proofs.activations.open_calls.Goals as goal

pub loop-at-preserved : goal.loop-at-preserved
loop-at-preserved c =
    let trace = c.args.trace.now in
    let tid = c.args.tid in
    let at = c.loop-at.at in
    let e = c.index-trace-at.result in
    let inside = c.loop-at-test.true in
    c.in_ok-follow.ensures
    ∙ (ap (λ (calls : List Activation). calls_after e tid at calls) c.loop-at.invariant
    ∙ (ap (λ (n : ℕ). calls_after e tid n (open_calls (reverse (take at trace)) tid)) (sym (length-reverse_take trace at inside))
    ∙ sym (ap (λ (past : List Event). open_calls past tid) (reverse-take_more trace at e inside c.index-trace-at.is))))
