use Rattle.std.proofs.Common.{◌∷◌, [], subst}
use Rattle.trace_model.specs.Observing.{Observes}
use Rattle.guest_machine.proofs.Handed.{observes_none}
use Rattle.guest_machine.proofs.telling.hand_two.Goals as goal

pub returns-in-Refused-clause-observed : goal.returns-in-Refused-clause-observed
returns-in-Refused-clause-observed g c =
    let old = c.args.observer.now in
    let new = c.observe.new.self in
    observes_none g.W.Observer.stands (g.W.Observer.fits old) old c.args.first (c.args.second ∷ []) new (g.W.Observer.fits_closed old)
    (subst (Observes g.W.Observer.stands (g.W.Observer.fits old) c.args.first old new) c.in-Refused.is c.in_ok-observe.ensures.observed)
