use Rattle.std.proofs.Common.{reverse, arith}
use Rattle.trace_model.specs.Causes.{Plain, OtherThread, Kernel}
use Rattle.trace_model.proofs.SizeParts.{both_fit}
use Rattle.trace_model.proofs.sizes.parts_of.Goals as goal

pub plus-parts-requires-clause-plain : goal.plus-parts-requires-clause-plain
plus-parts-requires-clause-plain c =
    both_fit Plain c.args.inside.now c.loop-i.i (reverse c.args.before.now) c.args.tid c.in-Read.first c.in-Read.count c.loop-i.parts c.parts_of_read.result c.loop-i.invariant c.parts_of_read.ensures c.requires (omega arith)

pub plus-parts-requires-clause-thread : goal.plus-parts-requires-clause-thread
plus-parts-requires-clause-thread c =
    both_fit OtherThread c.args.inside.now c.loop-i.i (reverse c.args.before.now) c.args.tid c.in-Read.first c.in-Read.count c.loop-i.parts c.parts_of_read.result c.loop-i.invariant c.parts_of_read.ensures c.requires (omega arith)

pub plus-parts-requires-clause-kernel : goal.plus-parts-requires-clause-kernel
plus-parts-requires-clause-kernel c =
    both_fit Kernel c.args.inside.now c.loop-i.i (reverse c.args.before.now) c.args.tid c.in-Read.first c.in-Read.count c.loop-i.parts c.parts_of_read.result c.loop-i.invariant c.parts_of_read.ensures c.requires (omega arith)
