use Rattle.std.proofs.Common.{◌≡◌, length}
use Rattle.context_tree.specs.Private.Ways.{HasSpare, lists, up}
use Rattle.context_tree.proofs.points.reserve_up.Given as goal

abbrev pub invariant-loop : goal.invariant-loop
invariant-loop l = record {
  at : l.n ≡ up l.numbers l.from l.counter;
  long : length l.points.items ≡ length l.numbers;
  points : lists l.points.items ≡ lists l.initial.points.items;
  room : HasSpare l.points.items l.numbers l.from l.counter;
}
