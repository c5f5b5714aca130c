use Rattle.std.proofs.Common.{◌≡◌, ◌≤◌, ◌-◌, length, map, take}
use Rattle.stamp_lanes.specs.Plain.{renewals, renewed}
use Rattle.stamp_lanes.proofs.renewal.renew_into.Given as goal

abbrev pub invariant-loop-at : goal.invariant-loop-at
invariant-loop-at g l = record {
  within : l.at ≤ length l.own;
  written : take l.at (map g.B.Lane.Stamp.number_of l.into)
      ≡ map renewed (take l.at (renewals (map g.B.Lane.Stamp.number_of l.own) (map g.B.Lane.Stamp.number_of l.own_class) (map g.B.Lane.Stamp.number_of l.write) (map g.B.Lane.Stamp.number_of l.write_class)));
}

abbrev pub decreases-loop-at : goal.decreases-loop-at
decreases-loop-at g l = length l.own - l.at
