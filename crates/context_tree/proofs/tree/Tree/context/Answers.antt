use Rattle.std.proofs.Common.{sym, subst}
use Rattle.context_tree.specs.Trees.{KeptTree, TreeStandsFor}
use Rattle.context_tree.proofs.Growing.{some_branches}
use Rattle.context_tree.proofs.tree.Tree.context.Goals as goal

pub context-requires-clause-stands : goal.context-requires-clause-stands
context-requires-clause-stands c = some_branches _ c.self.invariant

pub returns : goal.returns
returns c = λ past ordered stands in_order.
    let s = subst (λ (k : KeptTree). TreeStandsFor k past) (sym c.self.view_is) stands in
    c.context.ensures past ordered s.branches_are in_order
