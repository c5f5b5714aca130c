use Rattle.std.proofs.Common.{◌≡◌, take}
use Rattle.aprof_top.specs.Summary.{activations, costs, sizes}
use Rattle.aprof_top.proofs.summary.totals_of.Given as goal

abbrev pub invariant-loop-routine : goal.invariant-loop-routine
invariant-loop-routine l =
    (l.totals.activations ≡ activations (take l.routine-index l.routines))
    × (l.totals.sizes ≡ sizes (take l.routine-index l.routines))
    × (l.totals.costs ≡ costs (take l.routine-index l.routines))
