use Rattle.std.proofs.Common.{◌+◌, ℕ, Bool, arith, reverse, ap, ◌∙◌}
use Rattle.std.specs.List.{count_by, range_with_len}
use Rattle.trace_model.specs.declared.sizes.SizeParts.{SizeParts}
use Rattle.trace_model.specs.Causes.{Cause, Plain, OtherThread, Kernel, counts_by}
use Rattle.trace_model.specs.Private.SizeParts.{part_by, counts_touch, one_if}
use Rattle.trace_model.proofs.Bounds.{count_range_more, count_range-le}
use Rattle.trace_model.proofs.SizeParts.{part_of, parts_same}
use Rattle.trace_model.proofs.sizes.parts_of_read.Goals as goal

pub with-parts-requires-clause-plain : goal.with-parts-requires-clause-plain
with-parts-requires-clause-plain c =
    let counts = counts_by Plain (reverse c.args.inside.now) (reverse c.args.before.now) c.args.tid in
    omega (arith, ap (λ (p : SizeParts). p.plain) c.loop-k.invariant, count_range-le counts c.from-first.result c.loop-k.k)

pub with-parts-requires-clause-thread : goal.with-parts-requires-clause-thread
with-parts-requires-clause-thread c =
    let counts = counts_by OtherThread (reverse c.args.inside.now) (reverse c.args.before.now) c.args.tid in
    omega (arith, ap (λ (p : SizeParts). p.thread) c.loop-k.invariant, count_range-le counts c.from-first.result c.loop-k.k)

pub with-parts-requires-clause-kernel : goal.with-parts-requires-clause-kernel
with-parts-requires-clause-kernel c =
    let counts = counts_by Kernel (reverse c.args.inside.now) (reverse c.args.before.now) c.args.tid in
    omega (arith, ap (λ (p : SizeParts). p.kernel) c.loop-k.invariant, count_range-le counts c.from-first.result c.loop-k.k)

pub loop-k-preserved : goal.loop-k-preserved
loop-k-preserved c =
    let first = c.from-first.result in
    let counts : Cause → ℕ → Bool = λ cause. counts_by cause (reverse c.args.inside.now) (reverse c.args.before.now) c.args.tid in
    let so_far : Cause → ℕ = λ cause. count_by (counts cause) (range_with_len first c.loop-k.k) in
    c.with-parts.ensures
    ∙ parts_same (λ cause. part_by cause c.loop-k.parts + one_if (counts_touch cause c.counted_touch.result)) (λ cause. count_by (counts cause) (range_with_len first (c.loop-k.k + 1)))
    (λ cause.
    omega (
      arith,
      ap (part_by cause) c.loop-k.invariant,
      part_of so_far cause,
      ap one_if (c.counted_touch.ensures cause),
      count_range_more (counts cause) first c.loop-k.k,
    ))
