use Rattle.std.proofs.Common.{◌≡◌, ◌++◌, take}
use Rattle.cost_points.proofs.blocks.extend.Given as goal

abbrev pub invariant-loop-tally : goal.invariant-loop-tally
invariant-loop-tally l = l.all.items ≡ l.fn.all.items ++ take l.tally-index l.block
