use Rattle.guest_machine.proofs.Ranges.{every_step_in_range, every_waking_in_range}
use Rattle.guest_machine.proofs.laws.every_step_is_in_range.Goals as goal

pub returns : goal.returns
returns c = record { step = every_step_in_range; waking = every_waking_in_range }
