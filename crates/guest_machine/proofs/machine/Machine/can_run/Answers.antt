use Rattle.std.proofs.Common.{ap, ◌∙◌}
use Rattle.guest_machine.specs.Kept.{Parts, machine_of}
use Rattle.guest_machine.specs.Machine.{can_run}
use Rattle.guest_machine.proofs.machine.Machine.can_run.Goals as goal

pub returns : goal.returns
unfolding machine_of
returns c = c.can_run.ensures ∙ ap (λ (p : Parts). can_run (machine_of p) c.args.tid) c.self.view_is
