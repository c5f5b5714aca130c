use Rattle.std.proofs.Common.{nat_lt, w32}
use Rattle.stamp_lanes.proofs.Compared.{chosen_lanes}
use Rattle.stamp_lanes.proofs.block.U32x16Block.where_below.Goals as goal

pub returns : goal.returns
returns c = chosen_lanes w32 nat_lt _ _ _ _
