use Rattle.std.proofs.lemmas.Result.{IfOk-weaker}
use Rattle.guest_machine.proofs.Handed.{may_after, observes_behind}
use Rattle.guest_machine.proofs.telling.observe_one.Goals as goal

pub observe_after-requires-clause-may : goal.observe_after-requires-clause-may
observe_after-requires-clause-may g c =
    let old = c.args.observer.now in
    may_after g.W.Observer.stands (g.W.Observer.fits old) c.args.tid c.args.steps c.args.e old c.requires.next

pub returns-clause-observed : goal.returns-clause-observed
returns-clause-observed g c =
    let old = c.args.observer.now in
    IfOk-weaker c.observe_after.result _ _
    (λ observed h.
    observes_behind g.W.Observer.stands (g.W.Observer.fits old) c.args.tid c.args.steps c.args.e old (g.W.Observer.fits_closed old) (g.W.Observer.steps_fit old)
    c.observe_after.new.self observed h)
    c.observe_after.ensures.observed
