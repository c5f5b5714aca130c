use Rattle.std.proofs.Common.{ap, ◌∙◌}
use Rattle.guest_machine.specs.Kept.{Parts, machine_of}
use Rattle.guest_machine.specs.Machine.{ready}
use Rattle.guest_machine.proofs.machine.Machine.ready_into.Goals as goal

pub returns : goal.returns
unfolding machine_of
returns c = c.ready_into.ensures.ready ∙ ap (λ (p : Parts). ready (machine_of p)) c.self.view_is
