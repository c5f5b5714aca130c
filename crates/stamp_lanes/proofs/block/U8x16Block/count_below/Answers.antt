use Rattle.std.proofs.Common.{nat_lt, w8}
use Rattle.stamp_lanes.proofs.Compared.{counted_lanes}
use Rattle.stamp_lanes.proofs.block.U8x16Block.count_below.Goals as goal

pub returns : goal.returns
returns c = counted_lanes w8 nat_lt _ _ c.requires
