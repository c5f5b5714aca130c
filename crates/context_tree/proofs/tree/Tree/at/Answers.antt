use Rattle.context_tree.proofs.Growing.{whole}
use Rattle.context_tree.proofs.tree.Tree.at.Goals as goal

pub at-requires-clause-linked : goal.at-requires-clause-linked
at-requires-clause-linked c = (whole _ c.self.invariant).linked

pub at-requires-clause-long : goal.at-requires-clause-long
at-requires-clause-long c = (whole _ c.self.invariant).long
