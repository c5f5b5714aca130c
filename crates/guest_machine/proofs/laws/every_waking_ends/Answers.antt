use Rattle.guest_machine.proofs.AllWoken.{every_waking_answers, every_waking_takes_the_due}
use Rattle.guest_machine.proofs.ClockWakings.{every_waking_ends, every_waking_keeps}
use Rattle.guest_machine.proofs.laws.every_waking_ends.Goals as goal

pub returns : goal.returns
returns c = record { ends = every_waking_ends; due = every_waking_takes_the_due; answers = every_waking_answers; keeps = every_waking_keeps }
