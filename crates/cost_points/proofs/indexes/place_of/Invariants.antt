use Rattle.std.proofs.Common.{◌≡◌, ◌<◌, ◌+◌, ◌-◌, length, map}
use Rattle.cost_points.specs.Places.{before}
use Rattle.cost_points.proofs.indexes.place_of.Given as goal

abbrev pub invariant-walk : goal.invariant-walk
invariant-walk g l = (l.block < length l.blocks) × (length (before l.block (map (λ b. b.items) l.blocks)) + l.at ≡ l.i)

abbrev pub decreases-walk : goal.decreases-walk
decreases-walk g l = length l.blocks - l.block
