use Rattle.std.proofs.Common.{◌≤◌, length, subst}
use Rattle.std.specs.Prelude.{IfSome}
use Rattle.context_tree.specs.Trees.{KeptTree}
use Rattle.context_tree.proofs.Growing.{next_within, whole}
use Rattle.context_tree.proofs.tree.Tree.next_in_order.Goals as goal

pub next_in_order-requires-clause-linked : goal.next_in_order-requires-clause-linked
next_in_order-requires-clause-linked c = (whole _ c.self.invariant).linked

pub returns-clause-within : goal.returns-clause-within
returns-clause-within c =
    subst (λ (k : KeptTree). IfSome c.next_in_order.result (λ m. (1 ≤ m) × (m ≤ length k.branches.places))) c.self.view_is
    (next_within _ c.args.n c.next_in_order.result c.self.invariant c.next_in_order.ensures)
