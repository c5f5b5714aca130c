use Rattle.std.proofs.Common.{◌≡◌, [], sym, subst, append-nil, arith}
use Rattle.trace_model.specs.declared.observer.Observed.TheVariants.{Taken}
use Rattle.trace_model.specs.Observing.{MayTakeAll, ObservesAll}
use Rattle.guest_machine.specs.Told.{steps_of}
use Rattle.guest_machine.proofs.Handed.{may_step, observes_nothing, observes_on}
use Rattle.guest_machine.proofs.rows.observe_plain.Goals as goal

pub observe_steps-requires-clause-may : goal.observe_steps-requires-clause-may
observe_steps-requires-clause-may g c =
    let old = c.args.observer.now in
    may_step g.W.Observer.stands (g.W.Observer.fits old) (g.W.Observer.steps_fit old) c.args.tid c.args.steps [] old
    (subst (MayTakeAll g.W.Observer.stands (g.W.Observer.fits old) old) (sym (append-nil (steps_of c.args.tid c.args.steps))) (c.requires (omega (arith, c.if-steps-gt0.true))))

pub returns-in_ok-observe_steps-clause-observed : goal.returns-in_ok-observe_steps-clause-observed
returns-in_ok-observe_steps-clause-observed g c =
    let old = c.args.observer.now in
    let new = c.observe_steps.new.self in
    subst (λ events. ObservesAll g.W.Observer.stands (g.W.Observer.fits old) events old new Taken) (append-nil (steps_of c.args.tid c.args.steps))
    (observes_on g.W.Observer.stands (g.W.Observer.fits old) (g.W.Observer.steps_fit old) c.args.tid c.args.steps [] old new c.in_ok-observe_steps.ensures.stepped new Taken
    (observes_nothing g.W.Observer.stands (g.W.Observer.fits old) new))

pub returns-else-steps-gt0-clause-observed : goal.returns-else-steps-gt0-clause-observed
returns-else-steps-gt0-clause-observed g c =
    let old = c.args.observer.now in
    let none : 0 ≡ c.args.steps = omega (arith, c.if-steps-gt0.false) in
    subst (λ n. ObservesAll g.W.Observer.stands (g.W.Observer.fits old) (steps_of c.args.tid n) old old Taken) none
    (observes_nothing g.W.Observer.stands (g.W.Observer.fits old) old)
