use Rattle.std.proofs.Common.{arith, take, reverse}
use Rattle.trace_model.proofs.Bounds.{weight-take, cost-le-weight}
use Rattle.trace_model.proofs.sizes.cost_of.Goals as goal

pub overflow_add-cost : goal.overflow_add-cost
overflow_add-cost c =
    let inside = c.args.inside.now in
    omega (arith, c.loop-e.invariant, cost-le-weight (reverse (take c.loop-e.e-index inside)) c.args.tid, weight-take inside c.loop-e.e-index)
