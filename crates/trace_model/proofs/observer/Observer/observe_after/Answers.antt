use Rattle.std.proofs.Common.{subst}
use Rattle.std.proofs.lemmas.Result.{IfOk-weaker}
use Rattle.trace_model.specs.Observing.{Observes}
use Rattle.trace_model.proofs.Feeding.{may_step_before, may_take_behind, observes_after}
use Rattle.trace_model.proofs.observer.Observer.observe_after.Goals as goal

pub observe_steps-requires-clause-may : goal.observe_steps-requires-clause-may
observe_steps-requires-clause-may g c =
    let old = c.args.self.now in
    may_step_before g.Self.Observer.stands (g.Self.Observer.fits old) c.args.tid c.args.count c.args.e old c.requires.may

pub observe-requires : goal.observe-requires
observe-requires g c =
    let old = c.args.self.now in
    may_take_behind g.Self.Observer.stands (g.Self.Observer.fits old) c.args.tid c.args.count c.args.e old c.observe_steps.new.self
    c.in_ok-observe_steps.ensures.stepped c.requires.may

pub returns-clause-observed : goal.returns-clause-observed
returns-clause-observed g c =
    let old = c.args.self.now in
    let mid = c.observe_steps.new.self in
    let new = c.observe.new.self in
    IfOk-weaker c.observe.result _ _
    (λ observed h.
    observes_after g.Self.Observer.stands (g.Self.Observer.fits old) c.args.tid c.args.count c.args.e old mid c.in_ok-observe_steps.ensures.stepped new observed
    (subst (λ fits. Observes g.Self.Observer.stands fits c.args.e mid new observed) c.observe_steps.ensures.same h))
    c.observe.ensures.observed
