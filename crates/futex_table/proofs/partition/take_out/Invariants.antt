use Rattle.std.specs.Vec.{vec_capacity}
use Rattle.futex_table.proofs.Partitions.{IsParted}
use Rattle.futex_table.proofs.partition.take_out.Given as goal

abbrev pub invariant-loop-w : goal.invariant-loop-w
invariant-loop-w l =
    IsParted l.w-items l.at l.bits l.most l.w-index l.spare.items l.taken.items (vec_capacity l.spare) (vec_capacity l.taken)
