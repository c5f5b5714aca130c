use Rattle.std.proofs.Common.{◌++◌, List, reverse, take, ap, sym, ◌∙◌, arith}
use Rattle.trace_model.specs.declared.slow_profile.Done.{Done}
use Rattle.trace_model.specs.Profile.{done, ended}
use Rattle.trace_model.proofs.Bounds.{weight-take}
use Rattle.trace_model.proofs.Ended.{reverse-take_more}
use Rattle.trace_model.proofs.slow_profile.slow_done.Goals as goal

pub end_by-requires : goal.end_by-requires
end_by-requires c =
    omega (arith, weight-take c.args.h.now c.loop-q.q, c.requires)

pub loop-q-preserved : goal.loop-q-preserved
loop-q-preserved c =
    let h = c.args.h.now in
    let e = c.index-h-q.result in
    c.in_ok-end_by.ensures
    ∙ (ap (λ (ds : List Done). ds ++ ended e (reverse (take c.loop-q.q h))) c.loop-q.invariant
    ∙ sym (ap done (reverse-take_more h c.loop-q.q e c.loop-q-test.true c.index-h-q.is)))
