use Rattle.guest_machine.proofs.Limits.{every_step_within}
use Rattle.guest_machine.proofs.StepParts.{every_step_part}
use Rattle.guest_machine.proofs.laws.every_step_is_short.Goals as goal

pub returns : goal.returns
returns c = record { part = every_step_part; limits = every_step_within }
