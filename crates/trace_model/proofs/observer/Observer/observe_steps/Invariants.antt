use Rattle.std.proofs.Common.{◌≡◌, true, List}
use Rattle.trace_model.specs.declared.event_kinds.Event.{Event}
use Rattle.trace_model.specs.Observing.{with_steps}
use Rattle.trace_model.proofs.observer.Observer.observe_steps.Given as goal

abbrev pub invariant-loop : goal.invariant-loop
invariant-loop g l = record {
  stands : (past : List Event) → g.Self.Observer.stands l.fn.self past → g.Self.Observer.fits l.fn.self past ≡ true → g.Self.Observer.stands l.self (with_steps l.fn.tid l.counter past);
  same : g.Self.Observer.fits l.self ≡ g.Self.Observer.fits l.fn.self;
}
