use Rattle.std.specs.Vec.{vec_capacity}
use Rattle.futex_table.proofs.Partitions.{IsAdded}
use Rattle.futex_table.proofs.partition.add_moved.Given as goal

abbrev pub invariant-loop-w : goal.invariant-loop-w
invariant-loop-w l =
    IsAdded l.taken l.initial.waiting.items l.waiting.items l.to l.w-index (vec_capacity l.waiting)
