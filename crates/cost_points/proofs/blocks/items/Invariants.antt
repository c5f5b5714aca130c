use Rattle.std.proofs.Common.{◌≡◌, map, take}
use Rattle.cost_points.specs.Joined.{joined}
use Rattle.cost_points.proofs.blocks.items.Given as goal

abbrev pub invariant-loop-i : goal.invariant-loop-i
invariant-loop-i l = l.all.items ≡ joined (take l.i (map (λ v. v.items) l.blocks))
