use Rattle.stamp_renumber.proofs.Order.{starts_keep_order, accesses_keep_order, writes_keep_order, writes_stay, accesses_stay, new_stamps_fit}
use Rattle.stamp_renumber.proofs.laws.renumbering_keeps_order.Goals as goal

pub returns-clause-starts : goal.returns-clause-starts
returns-clause-starts c = starts_keep_order

pub returns-clause-accesses : goal.returns-clause-accesses
returns-clause-accesses c = accesses_keep_order

pub returns-clause-writes : goal.returns-clause-writes
returns-clause-writes c = writes_keep_order

pub returns-clause-writes_stay : goal.returns-clause-writes_stay
returns-clause-writes_stay c = writes_stay

pub returns-clause-accesses_stay : goal.returns-clause-accesses_stay
returns-clause-accesses_stay c = accesses_stay

pub returns-clause-fit : goal.returns-clause-fit
returns-clause-fit c = new_stamps_fit
