use Rattle.std.proofs.Common.{◌≤◌, ◌+◌, ◌*◌, All, map, take}
use Rattle.unit_tests.proofs.lanes.are_few.Given as goal

abbrev pub invariant-loop-class : goal.invariant-loop-class
invariant-loop-class g l = All (λ k. 3 * k + 2 ≤ g.S.Stamp.MAX) (map g.S.Stamp.number_of (take l.class-index l.classes))
