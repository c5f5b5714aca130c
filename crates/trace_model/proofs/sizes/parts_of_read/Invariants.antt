use Rattle.std.proofs.Common.{◌≡◌}
use Rattle.std.specs.Prelude.{reverse}
use Rattle.std.specs.List.{count_by, range_with_len}
use Rattle.trace_model.specs.Causes.{counts_by}
use Rattle.trace_model.specs.Private.SizeParts.{parts_by}
use Rattle.trace_model.proofs.sizes.parts_of_read.Given as goal

abbrev pub invariant-loop-k : goal.invariant-loop-k
invariant-loop-k l = l.parts ≡ parts_by (λ cause. count_by (counts_by cause (reverse l.inside) (reverse l.before) l.tid) (range_with_len l.first l.k))
