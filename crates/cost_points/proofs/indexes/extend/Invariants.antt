use Rattle.std.proofs.Common.{◌≡◌, ◌+◌, length, map}
use Rattle.cost_points.specs.Indexes.{AreStarts}
use Rattle.cost_points.proofs.indexes.extend.Given as goal

abbrev pub invariant-loop-block : goal.invariant-loop-block
invariant-loop-block g l = AreStarts (map (λ b. b.items) l.blocks) l.starts.items × (length l.starts.items ≡ l.block + 1)
