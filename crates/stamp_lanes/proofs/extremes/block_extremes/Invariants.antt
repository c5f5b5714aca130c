use Rattle.std.proofs.Common.{◌≡◌, ◌≤◌, ◌-◌, ℕ, length, map, take, min, max}
use Rattle.std.specs.List.{fold}
use Rattle.stamp_lanes.proofs.extremes.block_extremes.Given as goal

abbrev pub invariant-loop-at : goal.invariant-loop-at
invariant-loop-at g l = record {
  end : l.at ≤ length l.stamps;
  low_len : length (g.B.Block.lanes l.low) ≡ 16;
  high_len : length (g.B.Block.lanes l.high) ≡ 16;
  least : (a : ℕ) → fold min a (g.B.Block.lanes l.low) ≡ fold min a (take l.at (map g.B.Lane.Stamp.number_of l.stamps));
  greatest : (a : ℕ) → fold max a (g.B.Block.lanes l.high) ≡ fold max a (take l.at (map g.B.Lane.Stamp.number_of l.stamps));
}

abbrev pub decreases-loop-at : goal.decreases-loop-at
decreases-loop-at g l = length l.stamps - l.at
