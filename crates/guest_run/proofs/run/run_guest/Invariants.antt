use Rattle.std.proofs.Common.{◌≡◌, ◌≤◌, ◌-◌}
use Rattle.guest_machine.specs.Kept.{machine_of}
use Rattle.guest_run.specs.Private.Going.{Remains, standing_of}
use Rattle.guest_run.specs.Output.{sinks}
use Rattle.guest_run.specs.ObservedRun.{first_past}
use Rattle.guest_run.specs.Run.{start}
use Rattle.guest_run.proofs.run.run_guest.Given as goal

abbrev pub invariant-run : goal.invariant-run
invariant-run g l = record {
  remains : Remains g.W.Observer.stands (g.W.Observer.fits l.fn.observer) (first_past l.fn.machine.entry) (start l.fn.turns (machine_of l.fn.machine))
      (sinks (g.O.Sink.state l.fn.out) (g.E.Sink.state l.fn.err)) l.count (standing_of l.runner) l.observer (sinks (g.O.Sink.state l.out) (g.E.Sink.state l.err));
  same : g.W.Observer.fits l.observer ≡ g.W.Observer.fits l.fn.observer;
  most : l.count ≤ l.budget;
}

abbrev pub decreases-run : goal.decreases-run
decreases-run g l = l.budget - l.count
