use Rattle.std.proofs.Common.{nat_eq, w16}
use Rattle.stamp_lanes.proofs.Compared.{counted_lanes}
use Rattle.stamp_lanes.proofs.block.U16x16Block.count_equal.Goals as goal

pub returns : goal.returns
returns c = counted_lanes w16 nat_eq _ _ c.requires
