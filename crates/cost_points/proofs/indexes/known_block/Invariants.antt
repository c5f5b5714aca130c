use Rattle.std.proofs.Common.{◌<◌, ◌≤◌, ◌-◌, length}
use Rattle.std.specs.Prelude.{slice_index}
use Rattle.cost_points.proofs.indexes.known_block.Given as goal

abbrev pub invariant-halve : goal.invariant-halve
invariant-halve l = ((l.low < l.high) × (l.high ≤ length l.starts)) × ((slice_index l.starts l.low ≤ l.i) × (l.high < length l.starts → l.i < slice_index l.starts l.high))

abbrev pub decreases-halve : goal.decreases-halve
decreases-halve l = l.high - l.low
