use Rattle.std.proofs.Common.{◌≡◌, replicate, take}
use Rattle.stamp_lanes.proofs.bulk.fill.Given as goal

abbrev pub invariant-loop-i : goal.invariant-loop-i
invariant-loop-i g l = take l.i l.stamps ≡ replicate l.i l.fn.stamp
