use Rattle.std.proofs.Common.{◌≡◌, ◌+◌, ◌≤◌, ◌<◌, map, take, vec_len}
use Rattle.std.specs.Vec.{vec_capacity}
use Rattle.shadow_stack.specs.Frames.{IsRising, starts_of}
use Rattle.stamp_renumber.specs.Classes.{new_start}
use Rattle.stamp_renumber.proofs.frames.renewed_starts.Given as goal

abbrev pub invariant-loop-i : goal.invariant-loop-i
invariant-loop-i g l = record {
  long : vec_len l.renewed ≡ l.i;
  capacity : vec_capacity l.fn.renewed ≤ vec_capacity l.renewed;
  items : map g.S.Stamp.number_of l.renewed.items ≡ map (new_start (map g.S.Stamp.number_of l.starts)) (take l.i (starts_of l.frames.list));
  cost : l.steps ≡ l.fn.steps + l.i;
  rising : 0 < l.i → IsRising (starts_of l.frames.list);
}
