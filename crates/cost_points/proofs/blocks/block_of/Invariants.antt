use Rattle.std.proofs.Common.{◌-◌, map}
use Rattle.cost_points.specs.Private.Blocks.{IsBetween}
use Rattle.cost_points.proofs.blocks.block_of.Given as goal

abbrev pub invariant-halve : goal.invariant-halve
invariant-halve g l = IsBetween g.T.Keyed.key_of (map (λ v. v.items) l.blocks) l.key l.low l.high

abbrev pub decreases-halve : goal.decreases-halve
decreases-halve g l = l.high - l.low
