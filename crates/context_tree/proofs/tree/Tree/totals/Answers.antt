use Rattle.context_tree.proofs.Growing.{light_branches}
use Rattle.context_tree.proofs.tree.Tree.totals.Goals as goal

pub totals-requires : goal.totals-requires
totals-requires c = light_branches _ c.self.invariant
