use Rattle.std.proofs.Common.{arith}
use Rattle.guest_memory.proofs.CallerLemmas.{HoldAtMost-new, HoldAtMost-set, HoldAtMost-without}
use Rattle.worked_rows.proofs.instructions.two_reservations.Goals as goal

pub set-requires : goal.set-requires
set-requires c = HoldAtMost-without _ _ 0 31 (HoldAtMost-new _ c.new-held.ensures) (omega arith)

pub set-requires-2 : goal.set-requires-2
set-requires-2 c = HoldAtMost-without _ _ 1 31 (HoldAtMost-set _ _ _ _ 0 (HoldAtMost-new _ c.new-held.ensures) c.set.ensures) (omega arith)

pub returns : goal.returns
returns c = record { few = HoldAtMost-set _ _ _ _ 1 (HoldAtMost-set _ _ _ _ 0 (HoldAtMost-new _ c.new-held.ensures) c.set.ensures) c.set-2.ensures }
