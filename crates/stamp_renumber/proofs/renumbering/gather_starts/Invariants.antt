use Rattle.std.proofs.Common.{◌≡◌, ◌≤◌, map, take}
use Rattle.std.specs.Vec.{vec_capacity}
use Rattle.stamp_renumber.specs.Threads.{all_starts}
use Rattle.stamp_renumber.proofs.renumbering.gather_starts.Given as goal

abbrev pub invariant-loop-entry : goal.invariant-loop-entry
invariant-loop-entry g l = record {
  capacity : vec_capacity l.fn.starts ≤ vec_capacity l.starts;
  items : map g.S.Stamp.number_of l.starts.items ≡ all_starts (take l.entry-index l.threads);
}
