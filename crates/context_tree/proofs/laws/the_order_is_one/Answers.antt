use Rattle.context_tree.specs.Contexts.{contexts}
use Rattle.context_tree.proofs.InOrder.{have_order, is_in_order}
use Rattle.context_tree.proofs.Standing.{have_places}
use Rattle.context_tree.proofs.laws.the_order_is_one.Goals as goal

pub returns-clause-one : goal.returns-clause-one
returns-clause-one c = is_in_order

pub returns-clause-some : goal.returns-clause-some
returns-clause-some c = λ past. let have = have_places past in have_order have.places (contexts past) have.stands
