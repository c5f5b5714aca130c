use Rattle.std.proofs.Common.{subst, sym}
use Rattle.context_tree.specs.Private.Ways.{ArePoints}
use Rattle.context_tree.proofs.points.ContextPoints.reserve.Goals as goal

pub join-requires-clause-points : goal.join-requires-clause-points
join-requires-clause-points c = (c.self.invariant c.in-Some.point c.in-Some.is).points

pub join-requires-clause-fits : goal.join-requires-clause-fits
join-requires-clause-fits c = (c.self.invariant c.in-Some.point c.in-Some.is).fits

pub invariant_of-self : goal.invariant_of-self
invariant_of-self c = λ x is. record {
  points = subst ArePoints (sym c.in_err-join.ensures.err) (c.self.invariant x is).points;
  fits = (c.self.invariant x is).fits;
}
