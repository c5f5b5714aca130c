use Rattle.std.proofs.Common.{nat_eq, w16}
use Rattle.stamp_lanes.proofs.Compared.{chosen_lanes}
use Rattle.stamp_lanes.proofs.block.U16x16Block.where_equal.Goals as goal

pub returns : goal.returns
returns c = chosen_lanes w16 nat_eq _ _ _ _
