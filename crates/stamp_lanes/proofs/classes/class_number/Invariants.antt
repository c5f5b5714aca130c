use Rattle.std.proofs.Common.{◌≡◌, ◌≤◌, ◌+◌, map, take}
use Rattle.stamp_lanes.specs.Plain.{class_of}
use Rattle.stamp_lanes.proofs.classes.class_number.Given as goal

abbrev pub invariant-loop-start : goal.invariant-loop-start
invariant-loop-start g l = record {
  class : l.class ≡ class_of (map g.S.Stamp.number_of (take l.start-index l.starts)) l.fn.below (g.S.Stamp.number_of l.stamp);
  few : l.class ≤ l.fn.below + l.start-index;
}
