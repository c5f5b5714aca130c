use Rattle.guest_machine.proofs.Follows.{every_step_continues}
use Rattle.guest_machine.proofs.Weights.{every_step_light}
use Rattle.guest_machine.proofs.laws.every_step_is_traced.Goals as goal

pub returns : goal.returns
returns c = record { continues = every_step_continues; light = every_step_light }
