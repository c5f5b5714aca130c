use Rattle.demo_guest.proofs.Accepted.{no_first_out}
use Rattle.demo_guest.proofs.program.finish.Goals as goal

pub unreachable-requires-in-Err-Reach : goal.unreachable-requires-in-Err-Reach
unreachable-requires-in-Err-Reach c =
    no_first_out c.args.program c.in-Err-Reach.field-0-0 c.requires.accepted (rw c.in-Err-Reach.field-0-is at c.in-Err-Reach.ensures.refused).1
