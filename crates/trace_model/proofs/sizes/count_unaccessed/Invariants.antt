use Rattle.std.proofs.Common.{◌≡◌, not}
use Rattle.std.specs.Prelude.{reverse}
use Rattle.std.specs.List.{count_by, range_with_len}
use Rattle.trace_model.specs.Sizes.{accessed}
use Rattle.trace_model.proofs.sizes.count_unaccessed.Given as goal

abbrev pub invariant-loop-k : goal.invariant-loop-k
invariant-loop-k l = l.unaccessed ≡ count_by (λ w. not (accessed (reverse l.inside) l.tid w)) (range_with_len l.first l.k)
