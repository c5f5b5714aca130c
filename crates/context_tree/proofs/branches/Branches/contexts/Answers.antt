use Rattle.context_tree.specs.Contexts.{contexts}
use Rattle.context_tree.proofs.Sorting.{in_order, sorted_text}
use Rattle.context_tree.proofs.branches.Branches.contexts.Goals as goal

pub returns-clause-ordered : goal.returns-clause-ordered
returns-clause-ordered c = λ past stands. (sorted_text (contexts past) (contexts past), in_order (contexts past) c.args.self.now.places stands.contexts_are)
