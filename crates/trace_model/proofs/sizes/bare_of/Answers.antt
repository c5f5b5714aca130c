use Rattle.std.proofs.Common.{arith, take, reverse, not}
use Rattle.trace_model.specs.Sizes.{accessed}
use Rattle.trace_model.proofs.Bounds.{weight-take, pairs-le-weight, count_range-le}
use Rattle.trace_model.proofs.sizes.bare_of.Goals as goal

pub overflow_add-bare : goal.overflow_add-bare
overflow_add-bare c =
    let inside = c.args.inside.now in
    let seen = reverse (take c.loop-i.i inside) in
    omega (
      arith,
      c.loop-i.invariant,
      pairs-le-weight (λ earlier l. not (accessed earlier c.args.tid l)) seen c.args.tid,
      weight-take inside c.loop-i.i,
      c.count_unaccessed-bare.ensures,
      count_range-le (λ l. not (accessed seen c.args.tid l)) c.in-Read.first c.in-Read.count,
    )
