use Rattle.std.proofs.Common.{◌≡◌, take}
use Rattle.std.specs.Prelude.{reverse}
use Rattle.trace_model.specs.Sizes.{cost}
use Rattle.trace_model.proofs.sizes.cost_of.Given as goal

abbrev pub invariant-loop-e : goal.invariant-loop-e
invariant-loop-e l = l.cost ≡ cost (reverse (take l.e-index l.inside)) l.tid
