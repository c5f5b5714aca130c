use Rattle.std.proofs.Common.{nat_eq, w32}
use Rattle.stamp_lanes.proofs.Compared.{chosen_lanes}
use Rattle.stamp_lanes.proofs.block.U32x16Block.where_equal.Goals as goal

pub returns : goal.returns
returns c = chosen_lanes w32 nat_eq _ _ _ _
