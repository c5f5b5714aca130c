use Rattle.std.proofs.Common.{ℕ, ◌≤◌, List, length}
use Rattle.context_tree.specs.Numbers.{NumbersStandFor}
use Rattle.context_tree.proofs.Ordering.{IsClimbing}
use Rattle.context_tree.proofs.order.after_under.Given as goal

abbrev pub invariant-loop-n : goal.invariant-loop-n
invariant-loop-n l = record {
  within : l.n ≤ length l.numbers;
  climbs : (contexts : List (List ℕ)) (stands : NumbersStandFor l.numbers contexts) → IsClimbing l.numbers contexts stands l.from l.n;
}

abbrev pub decreases-loop-n : goal.decreases-loop-n
decreases-loop-n l = l.n
