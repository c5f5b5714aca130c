use Rattle.std.proofs.Common.{nat_eq, w32}
use Rattle.stamp_lanes.proofs.Compared.{counted_lanes}
use Rattle.stamp_lanes.proofs.block.U32x16Block.count_equal.Goals as goal

pub returns : goal.returns
returns c = counted_lanes w32 nat_eq _ _ c.requires
