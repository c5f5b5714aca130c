use Rattle.std.proofs.Common.{◌≡◌, true, false, ◌∷◌, take, sym, ap, subst, ◌∙◌}
use Rattle.trace_model.specs.Cut.{past_after}
use Rattle.trace_model.specs.Observing.{Observes}
use Rattle.trace_model.proofs.Cut.{cut-fits}
use Rattle.trace_model.proofs.Feeding.{cut-at, fits-not, formed-at, taken-all}
use Rattle.trace_model.proofs.observer.feed.Goals as goal

pub observe-requires : goal.observe-requires
observe-requires g c =
    let events = c.args.events.now in
    let i = c.loop-e.e-index in
    let stood = c.loop-e.invariant.stands c.requires.past c.requires.now c.requires.fitting in
    record {
      past = past_after c.requires.past (take i events);
      now = stood.0;
      formed = formed-at c.requires.past events i c.e-item.result c.loop-e-test.true c.e-item.is c.requires.formed;
    }

pub returns-in-Refused-clause-observed : goal.returns-in-Refused-clause-observed
returns-in-Refused-clause-observed g c = λ past stood fitting.
    let events = c.args.events.now in
    let i = c.loop-e.e-index in
    let e = c.e-item.result in
    let now = past_after past (take i events) in
    let before = c.loop-e.invariant.stands past stood fitting in
    let observed = subst (Observes g.W.Observer.stands (g.W.Observer.fits c.loop-e.observer) e c.loop-e.observer c.observe.new.self) c.in-Refused.is c.in_ok-observe.ensures.observed in
    let after = observed now before.0 in
    let fits = g.W.Observer.fits c.args.observer.now in
    let closed = g.W.Observer.fits_closed c.args.observer.now in
    let not_fits : fits (e ∷ now) ≡ false = ap (λ test. test (e ∷ now)) (sym c.loop-e.invariant.same) ∙ after.1 in (
      subst (g.W.Observer.stands c.observe.new.self) (sym (cut-at past events i e c.loop-e-test.true c.e-item.is fits closed not_fits before.1)) after.0,
      fits-not past events i e c.loop-e-test.true c.e-item.is fits closed not_fits,
    )

pub returns-clause-observed : goal.returns-clause-observed
returns-clause-observed g c = λ past stood fitting.
    let fits = g.W.Observer.fits c.args.observer.now in
    let whole = taken-all past c.args.events.now c.loop-e.e-index c.loop-e-test.false in
    let before = c.loop-e.invariant.stands past stood fitting in
    let is : fits (past_after past c.args.events.now) ≡ true = ap fits (sym whole) ∙ before.1 in
    (subst (g.W.Observer.stands c.loop-e.observer) (whole ∙ sym (cut-fits fits (past_after past c.args.events.now) is)) before.0, is)
