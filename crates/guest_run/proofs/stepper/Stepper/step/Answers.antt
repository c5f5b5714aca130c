use Rattle.std.proofs.Common.{List, ◌++◌, append-nil, subst}
use Rattle.trace_model.specs.declared.event_kinds.Event.{Event}
use Rattle.guest_machine.specs.Kept.{Steps, machine_of}
use Rattle.guest_machine.specs.Step.{step}
use Rattle.guest_machine.specs.Told.{stepped_of, told}
use Rattle.guest_machine.specs.declared.stepped.Advanced.{Advanced}
use Rattle.guest_run.proofs.stepper.Stepper.step.Goals as goal

pub returns-in-Other-clause-ends : goal.returns-in-Other-clause-ends
returns-in-Other-clause-ends g c =
    let r = step (machine_of c.args.self.now.machine) c.args.tid in
    let machine = c.advance.new.self in
    let events = c.advance.new.events.list in
    let cleared = c.clear.new.self.list in
    let steps = subst (λ (a : Advanced). Steps r (stepped_of a) machine cleared (events ++ told c.args.tid a)) c.in-Other.is c.in_ok-instruction.ensures.step in
    let added = subst (λ (es : List Event). Steps r c.in-Other.stepped machine cleared es) (append-nil events) steps in
    c.finish_step.ensures.ends r (subst (λ (es : List Event). Steps r c.in-Other.stepped machine es events) c.clear.ensures.list added)
