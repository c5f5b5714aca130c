use Rattle.std.proofs.Common.{refl}
use Rattle.guest_memory.specs.ReservedBy.{reserved_by}
use Rattle.guest_memory.proofs.reservations.Reservations.new.Goals as goal

pub returns : goal.returns
unfolding reserved_by
returns c = refl
