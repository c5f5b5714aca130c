use Rattle.std.proofs.Common.{◌≡◌, ◌++◌, ◌<◌, ℕ, List, length, get_or, map, take}
use Rattle.trace_model.specs.declared.slow_profile.Done.{Done}
use Rattle.context_tree.specs.Numbers.{NumbersStandFor}
use Rattle.context_tree.specs.Points.{points_of}
use Rattle.context_tree.specs.Private.Ways.{lists, no_points, tagged, up}
use Rattle.context_tree.proofs.points.add_up.Given as goal

abbrev pub invariant-loop-done : goal.invariant-loop-done
invariant-loop-done l = record {
  at : l.number ≡ up l.numbers l.from l.done-index;
  long : length l.points.items ≡ length l.numbers;
  below : (i : ℕ) → i < l.number → get_or l.points.items i no_points ≡ get_or l.initial.points.items i no_points;
  points : (contexts : List (List ℕ)) (members : List (List ℕ × Done)) → NumbersStandFor l.numbers contexts →
      lists l.initial.points.items ≡ map (points_of members) contexts →
      lists l.points.items ≡ map (points_of (members ++ tagged l.numbers contexts l.from (take l.done-index l.ended))) contexts;
}
