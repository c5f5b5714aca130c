use Rattle.std.proofs.Common.{◌≡◌, ◌≤◌, ℕ, List, [], length, get_or}
use Rattle.trace_model.specs.declared.event_kinds.Event.{Event}
use Rattle.context_tree.specs.Contexts.{contexts}
use Rattle.context_tree.specs.Numbers.{numbered}
use Rattle.context_tree.specs.Order.{IsInOrder}
use Rattle.context_tree.specs.Branches.{BranchesStandFor}
use Rattle.context_tree.proofs.branches.Branches.number_at.Given as goal

abbrev pub invariant-loop : goal.invariant-loop
invariant-loop l = record {
  some : 1 ≤ l.n;
  within : l.n ≤ length l.self.places;
  listed : (past : List Event) (ordered : List (List ℕ)) → BranchesStandFor l.self past → IsInOrder (contexts past) ordered → numbered (contexts past) l.n ≡ get_or ordered l.counter [];
}
