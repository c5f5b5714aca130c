use Rattle.std.proofs.Common.{◌≡◌, map, take}
use Rattle.stamp_lanes.specs.Plain.{class_of}
use Rattle.stamp_lanes.proofs.classes.block_classes.Given as goal

abbrev pub invariant-loop-start : goal.invariant-loop-start
invariant-loop-start g l = g.B.Block.lanes l.classes ≡ map (class_of (take l.start-index (map g.B.Lane.Stamp.number_of l.starts)) l.fn.below) (g.B.Block.lanes l.block)
