use Rattle.std.proofs.Common.{◌≤◌, ◌-◌, length, map, take}
use Rattle.stamp_lanes.specs.Plain.{IsBulk, places}
use Rattle.stamp_lanes.proofs.bulk.read_all.Given as goal

abbrev pub invariant-loop-at : goal.invariant-loop-at
invariant-loop-at g l = record {
  end : l.at ≤ length l.own;
  counts : IsBulk (g.B.Lane.Stamp.number_of l.fn.start) (take l.at (places (map g.B.Lane.Stamp.number_of l.own) (map g.B.Lane.Stamp.number_of l.write) l.marks)) l.counts;
}

abbrev pub decreases-loop-at : goal.decreases-loop-at
decreases-loop-at g l = length l.own - l.at
