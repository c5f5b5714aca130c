use Rattle.std.proofs.Common.{◌≡◌, ◌+◌, ◌*◌, take}
use Rattle.std.specs.List.{sum_by}
use Rattle.aprof_top.proofs.summary.Sums.with_points.Given as goal

abbrev pub invariant-loop-point : goal.invariant-loop-point
invariant-loop-point l =
    (l.totals.activations ≡ l.fn.self.activations + sum_by (λ p. p.calls) (take l.point-index l.points))
    × (l.totals.sizes ≡ l.fn.self.sizes + sum_by (λ p. p.size * p.calls) (take l.point-index l.points))
    × (l.totals.costs ≡ l.fn.self.costs + sum_by (λ p. p.sum) (take l.point-index l.points))
