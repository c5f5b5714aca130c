use Rattle.std.proofs.Common.{◌≡◌, take}
use Rattle.std.specs.Prelude.{reverse}
use Rattle.trace_model.specs.Sizes.{bare}
use Rattle.trace_model.proofs.sizes.bare_of.Given as goal

abbrev pub invariant-loop-i : goal.invariant-loop-i
invariant-loop-i l = l.bare ≡ bare (reverse (take l.i l.inside)) l.tid
