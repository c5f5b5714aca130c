use Rattle.std.proofs.Common.{◌≡◌, ◌∷◌, false, suc, ap, subst, sym, ◌∙◌}
use Rattle.std.proofs.lemmas.Bool.{true≢false}
use Rattle.trace_model.specs.declared.event_kinds.Event.TheVariants.{Step}
use Rattle.trace_model.specs.Observing.{Observes, with_steps}
use Rattle.trace_model.proofs.Feeding.{fits_on, steps_formed}
use Rattle.trace_model.proofs.observer.Observer.observe_steps.Goals as goal

pub observe-requires : goal.observe-requires
observe-requires g c =
    let may = c.requires.may in
    record {
      past = with_steps c.args.tid c.loop.counter may.past;
      now = c.loop.invariant.stands may.past may.now may.fitting;
      formed = steps_formed c.args.tid c.args.count c.loop.counter may.past c.loop-test.true may.formed;
    }

pub unreachable-requires : goal.unreachable-requires
unreachable-requires g c =
    let may = c.requires.may in
    let fits = g.Self.Observer.fits c.args.self.now in
    let now = with_steps c.args.tid c.loop.counter may.past in
    let observed = subst (Observes g.Self.Observer.stands (g.Self.Observer.fits c.loop.self) (Step c.args.tid) c.loop.self c.observe.new.self) c.in-Refused.is c.in_ok-observe.ensures.observed in
    let refused : fits (Step c.args.tid ∷ now) ≡ false = ap (λ test. test (Step c.args.tid ∷ now)) (sym c.loop.invariant.same) ∙ (observed now (c.loop.invariant.stands may.past may.now may.fitting)).1 in
    true≢false (sym (fits_on fits (g.Self.Observer.steps_fit c.args.self.now) c.args.tid (suc c.loop.counter) may.past may.fitting) ∙ refused)
