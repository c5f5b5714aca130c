use Rattle.std.proofs.Common.{subst, arith}
use Rattle.std.proofs.lemmas.Result.{err_from_is_err_and}
use Rattle.guest_machine.specs.Kept.{machine_of}
use Rattle.guest_machine.specs.Running.{ObservesSteps}
use Rattle.guest_run.specs.Private.Going.{standing_of}
use Rattle.guest_run.proofs.Known.{known_given_up, known_over, known_remains, may_take_known}
use Rattle.guest_run.proofs.run.Runner.run_known.Goals as goal

pub run_known-requires-clause-next : goal.run_known-requires-clause-next
run_known-requires-clause-next g c =
    let some = c.requires.remains.1 in
    may_take_known g.W.Observer.stands (g.W.Observer.fits c.args.observer.now) (g.W.Observer.fits_closed c.args.observer.now) some.first some.start some.before c.args.made
    c.min-most.result (standing_of c.args.self.now) c.args.observer.now c.requires.remains.0 some.remains (omega (arith, c.min-most.ensures))
    (omega (arith, c.min-most.ensures, c.requires.budget, c.requires.limit))

pub returns-in_err-known-clause-ends : goal.returns-in_err-known-clause-ends
returns-in_err-known-clause-ends g c = λ now first start before begun.
    let p = err_from_is_err_and c.from_residual.result c.from_residual.ensures.1 in
    rw (p.1, p.2)
    (known_given_up g.W.Observer.stands (g.W.Observer.fits c.args.observer.now) (g.W.Observer.fits_closed c.args.observer.now) first start before c.args.made
    c.min-most.result (standing_of c.args.self.now) c.args.observer.now now begun (omega (arith, c.min-most.ensures))
    (omega (arith, c.min-most.ensures, c.requires.budget, c.requires.limit)) c.args.budget (omega (arith, c.min-most.ensures, c.if-most-eq0.false, c.requires.budget)) c.run_known.new.observer)

pub returns-in-Taken-clause-ends : goal.returns-in-Taken-clause-ends
returns-in-Taken-clause-ends g c = λ now first start before begun.
    let fits = g.W.Observer.fits c.args.observer.now in
    let is = c.in_ok-known.ensures.made in
    known_remains g.W.Observer.stands fits (g.W.Observer.fits_closed c.args.observer.now) first start before c.args.made c.min-most.result (standing_of c.args.self.now)
    c.args.observer.now now begun (omega (arith, c.min-most.ensures)) (omega (arith, c.min-most.ensures, c.requires.budget, c.requires.limit))
    c.run_known.new.observer c.in_ok-known.known.count c.in_ok-known.ensures.most is.all
    (subst (ObservesSteps g.W.Observer.stands fits (machine_of c.args.self.now.stepper.machine) c.args.self.now.turn.tid c.args.observer.now c.run_known.new.observer c.in_ok-known.known.count) c.in-Taken.is is.observed)
    (machine_of c.run_known.new.self) is.machine

pub returns-in-Refused-clause-ends : goal.returns-in-Refused-clause-ends
returns-in-Refused-clause-ends g c = λ now first start before begun.
    let fits = g.W.Observer.fits c.args.observer.now in
    let is = c.in_ok-known.ensures.made in
    known_over g.W.Observer.stands fits (g.W.Observer.fits_closed c.args.observer.now) first start before c.args.made c.min-most.result (standing_of c.args.self.now)
    c.args.observer.now now begun (omega (arith, c.min-most.ensures)) (omega (arith, c.min-most.ensures, c.requires.budget, c.requires.limit))
    c.run_known.new.observer c.in_ok-known.known.count c.in_ok-known.ensures.most is.all
    (subst (ObservesSteps g.W.Observer.stands fits (machine_of c.args.self.now.stepper.machine) c.args.self.now.turn.tid c.args.observer.now c.run_known.new.observer c.in_ok-known.known.count) c.in-Refused.is is.observed)
    c.args.budget (omega (arith, c.min-most.ensures, c.requires.budget)) (machine_of c.run_known.new.self)
