use Rattle.std.proofs.Common.{[]}
use Rattle.context_tree.proofs.AddingUp.{one_context_each, routines_add_up}
use Rattle.context_tree.proofs.SizeBySize.{contexts_together}
use Rattle.context_tree.proofs.Standing.{have_places}
use Rattle.context_tree.proofs.Summing.{by_context}
use Rattle.context_tree.proofs.laws.contexts_add_up.Goals as goal

pub returns-clause-one : goal.returns-clause-one
returns-clause-one c = one_context_each

pub returns-clause-table : goal.returns-clause-table
returns-clause-table c = λ past. let have = have_places past in by_context past have.places have.stands []

pub returns-clause-routines : goal.returns-clause-routines
returns-clause-routines c = routines_add_up

pub returns-clause-sizes : goal.returns-clause-sizes
returns-clause-sizes c = contexts_together
