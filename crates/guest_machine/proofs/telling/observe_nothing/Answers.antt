use Rattle.trace_model.specs.declared.observer.Observed.TheVariants.{Taken}
use Rattle.std.proofs.Common.{[]}
use Rattle.guest_machine.proofs.Handed.{may_step, observes_nothing, observes_on}
use Rattle.guest_machine.proofs.telling.observe_nothing.Goals as goal

pub observe_steps-requires-clause-may : goal.observe_steps-requires-clause-may
observe_steps-requires-clause-may g c =
    let old = c.args.observer.now in
    may_step g.W.Observer.stands (g.W.Observer.fits old) (g.W.Observer.steps_fit old) c.args.tid c.args.steps [] old c.requires.next

pub returns-clause-observed : goal.returns-clause-observed
returns-clause-observed g c =
    let old = c.args.observer.now in
    let new = c.observe_steps.new.self in
    observes_on g.W.Observer.stands (g.W.Observer.fits old) (g.W.Observer.steps_fit old) c.args.tid c.args.steps [] old new c.in_ok-observe_steps.ensures.stepped new Taken
    (observes_nothing g.W.Observer.stands (g.W.Observer.fits old) new)
