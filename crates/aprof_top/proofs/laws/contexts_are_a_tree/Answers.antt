use Rattle.aprof_top.proofs.DepthFirst.{are_a_tree}
use Rattle.aprof_top.proofs.laws.contexts_are_a_tree.Goals as goal

pub returns : goal.returns
returns c = are_a_tree
