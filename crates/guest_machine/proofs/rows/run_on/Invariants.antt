use Rattle.std.proofs.Common.{◌≡◌, ◌-◌}
use Rattle.rv_exec.specs.Effects.{exec_state_of}
use Rattle.guest_machine.specs.Private.Rows.{HasRun}
use Rattle.guest_machine.proofs.rows.run_on.Given as goal

abbrev pub invariant-steps : goal.invariant-steps
invariant-steps g l = record {
  run : HasRun g.W.Observer.stands (g.W.Observer.fits l.fn.observer) l.fn.tid (exec_state_of l.fn.cpu l.fn.memory l.fn.held) l.fn.observer l.fn.most
      l.row (exec_state_of l.cpu l.memory l.held) l.observer;
  same : g.W.Observer.fits l.observer ≡ g.W.Observer.fits l.fn.observer;
}

abbrev pub decreases-steps : goal.decreases-steps
decreases-steps g l = l.row.left - l.row.plain
