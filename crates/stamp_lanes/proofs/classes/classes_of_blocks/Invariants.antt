use Rattle.std.proofs.Common.{◌≡◌, ◌≤◌, ◌-◌, length, map, take}
use Rattle.stamp_lanes.specs.Plain.{class_of}
use Rattle.stamp_lanes.proofs.classes.classes_of_blocks.Given as goal

abbrev pub invariant-loop-at : goal.invariant-loop-at
invariant-loop-at g l = record {
  within : l.at ≤ length l.stamps;
  written : take l.at (map g.B.Lane.Stamp.number_of l.into) ≡ map (class_of (map g.B.Lane.Stamp.number_of l.starts) l.below) (take l.at (map g.B.Lane.Stamp.number_of l.stamps));
}

abbrev pub decreases-loop-at : goal.decreases-loop-at
decreases-loop-at g l = length l.stamps - l.at
