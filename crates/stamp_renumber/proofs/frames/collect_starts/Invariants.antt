use Rattle.std.proofs.Common.{◌≡◌, ◌≤◌, ◌+◌, ◌++◌, map, take, vec_len}
use Rattle.std.specs.Vec.{vec_capacity}
use Rattle.shadow_stack.specs.Frames.{starts_of}
use Rattle.stamp_renumber.proofs.frames.collect_starts.Given as goal

abbrev pub invariant-loop-i : goal.invariant-loop-i
invariant-loop-i g l = record {
  long : vec_len l.starts ≡ vec_len l.fn.starts + l.i;
  capacity : vec_capacity l.fn.starts ≤ vec_capacity l.starts;
  items : map g.S.Stamp.number_of l.starts.items ≡ map g.S.Stamp.number_of l.fn.starts.items ++ take l.i (starts_of l.frames.list);
}
