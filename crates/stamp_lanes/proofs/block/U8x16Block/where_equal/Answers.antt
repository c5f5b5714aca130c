use Rattle.std.proofs.Common.{nat_eq, w8}
use Rattle.stamp_lanes.proofs.Compared.{chosen_lanes}
use Rattle.stamp_lanes.proofs.block.U8x16Block.where_equal.Goals as goal

pub returns : goal.returns
returns c = chosen_lanes w8 nat_eq _ _ _ _
