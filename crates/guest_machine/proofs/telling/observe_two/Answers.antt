use Rattle.std.proofs.Common.{◌∷◌, [], subst, sym}
use Rattle.std.proofs.lemmas.Result.{IfOk-weaker}
use Rattle.trace_model.specs.Observing.{MayTakeAll, ObservesAll}
use Rattle.guest_machine.proofs.Handed.{may_go_on, may_step, observes_on}
use Rattle.guest_machine.proofs.telling.observe_two.Goals as goal

pub observe_steps-requires-clause-may : goal.observe_steps-requires-clause-may
observe_steps-requires-clause-may g c =
    let old = c.args.observer.now in
    may_step g.W.Observer.stands (g.W.Observer.fits old) (g.W.Observer.steps_fit old) c.args.tid c.args.steps (c.args.first ∷ c.args.second ∷ []) old c.requires.next

pub hand_two-requires : goal.hand_two-requires
hand_two-requires g c =
    let old = c.args.observer.now in
    let mid = c.observe_steps.new.self in
    let events = c.args.first ∷ c.args.second ∷ [] in
    subst (λ fits. MayTakeAll g.W.Observer.stands fits mid events) (sym c.observe_steps.ensures.same)
    (may_go_on g.W.Observer.stands (g.W.Observer.fits old) (g.W.Observer.steps_fit old) c.args.tid c.args.steps events old mid c.in_ok-observe_steps.ensures.stepped c.requires.next)

pub returns-clause-observed : goal.returns-clause-observed
returns-clause-observed g c =
    let old = c.args.observer.now in
    let mid = c.observe_steps.new.self in
    let new = c.hand_two.new.observer in
    let events = c.args.first ∷ c.args.second ∷ [] in
    IfOk-weaker c.hand_two.result _ _
    (λ observed h.
    observes_on g.W.Observer.stands (g.W.Observer.fits old) (g.W.Observer.steps_fit old) c.args.tid c.args.steps events old mid c.in_ok-observe_steps.ensures.stepped new observed
    (subst (λ fits. ObservesAll g.W.Observer.stands fits events mid new observed) c.observe_steps.ensures.same h))
    c.hand_two.ensures.observed
