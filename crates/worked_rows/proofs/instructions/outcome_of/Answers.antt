use Rattle.std.proofs.Common.{arith}
use Rattle.guest_memory.proofs.CallerLemmas.{HoldAtMost-without}
use Rattle.worked_rows.proofs.instructions.outcome_of.Goals as goal

pub execute-outcome-requires : goal.execute-outcome-requires
execute-outcome-requires c = HoldAtMost-without _ _ 2 31 c.two_reservations-held.ensures.few (omega arith)
