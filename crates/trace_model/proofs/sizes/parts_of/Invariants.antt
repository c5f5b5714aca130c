use Rattle.std.proofs.Common.{◌≡◌, take}
use Rattle.std.specs.Prelude.{reverse}
use Rattle.trace_model.specs.Causes.{part}
use Rattle.trace_model.specs.Private.SizeParts.{parts_by}
use Rattle.trace_model.proofs.sizes.parts_of.Given as goal

abbrev pub invariant-loop-i : goal.invariant-loop-i
invariant-loop-i l = l.parts ≡ parts_by (λ cause. part cause (reverse (take l.i l.inside)) (reverse l.before) l.tid)
