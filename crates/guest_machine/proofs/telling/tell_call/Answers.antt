use Rattle.std.proofs.lemmas.Result.{IfOk-weaker}
use Rattle.trace_model.specs.declared.event_kinds.Event.TheVariants.{Call}
use Rattle.trace_model.specs.Observing.{result_of}
use Rattle.guest_machine.proofs.Handed.{may_after, observes_behind}
use Rattle.guest_machine.proofs.telling.tell_call.Goals as goal

pub observe_call-requires-clause-may : goal.observe_call-requires-clause-may
observe_call-requires-clause-may g c =
    let old = c.args.observer.now in
    may_after g.W.Observer.stands (g.W.Observer.fits old) c.args.tid c.args.steps (Call c.args.tid c.args.entry c.args.back) old c.requires.next

pub returns-clause-observed : goal.returns-clause-observed
returns-clause-observed g c =
    let old = c.args.observer.now in
    IfOk-weaker (result_of c.observe_call.result) _ _
    (λ observed h.
    observes_behind g.W.Observer.stands (g.W.Observer.fits old) c.args.tid c.args.steps (Call c.args.tid c.args.entry c.args.back) old (g.W.Observer.fits_closed old) (g.W.Observer.steps_fit old)
    c.observe_call.new.self observed h)
    c.observe_call.ensures.observed
