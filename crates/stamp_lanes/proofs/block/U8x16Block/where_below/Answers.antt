use Rattle.std.proofs.Common.{nat_lt, w8}
use Rattle.stamp_lanes.proofs.Compared.{chosen_lanes}
use Rattle.stamp_lanes.proofs.block.U8x16Block.where_below.Goals as goal

pub returns : goal.returns
returns c = chosen_lanes w8 nat_lt _ _ _ _
