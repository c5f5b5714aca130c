use Rattle.guest_memory.specs.ReservedBy.{reserved_by}
use Rattle.guest_memory.proofs.reservations.Reservations.take.Goals as goal

pub returns-clause-held : goal.returns-clause-held
unfolding reserved_by
returns-clause-held c = c.is_held-held.ensures
