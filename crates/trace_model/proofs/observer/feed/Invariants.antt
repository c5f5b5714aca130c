use Rattle.std.proofs.Common.{◌≡◌, true, List, take}
use Rattle.trace_model.specs.declared.event_kinds.Event.{Event}
use Rattle.trace_model.specs.Cut.{past_after}
use Rattle.trace_model.proofs.observer.feed.Given as goal

abbrev pub invariant-loop-e : goal.invariant-loop-e
invariant-loop-e g l = record {
  stands :
      (past : List Event) → g.W.Observer.stands l.fn.observer past → g.W.Observer.fits l.fn.observer past ≡ true →
      g.W.Observer.stands l.observer (past_after past (take l.e-index l.fn.events))
      × (g.W.Observer.fits l.fn.observer (past_after past (take l.e-index l.fn.events)) ≡ true);
  same : g.W.Observer.fits l.observer ≡ g.W.Observer.fits l.fn.observer;
}
