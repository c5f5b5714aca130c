use Rattle.std.proofs.Common.{◌≡◌, ◌+◌, ◌++◌, List, map, take}
use Rattle.std.specs.List.{All, flat_map, sum_by}
use Rattle.trace_model.specs.declared.slow_profile.Done.{Done}
use Rattle.cost_points.specs.declared.point.Point.{Point}
use Rattle.cost_points.specs.Contents.{contents_of}
use Rattle.cost_points.specs.Keys.{rising}
use Rattle.cost_points.proofs.Grouped.{having}
use Rattle.context_tree.specs.Points.{points_from}
use Rattle.context_tree.proofs.sums.add_points.Given as goal

abbrev pub invariant-loop-point : goal.invariant-loop-point
invariant-loop-point l = record {
  members : l.table.members ≡ l.initial.table.members + sum_by (λ (p : Point). p.calls) (take l.point-index l.points);
  added : (added more : List Done) → l.initial.table ≡ contents_of added → All (λ (d : Done). d.entry ≡ l.entry) more → l.points ≡ points_from more →
      l.table ≡ contents_of (added ++ flat_map (λ k. having (λ (d : Done). d.size) k more) (take l.point-index (rising (map (λ (d : Done). d.size) more))));
}
