use Rattle.std.proofs.Common.{◌≡◌, ◌+◌, ◌-◌, ◌≤◌, Ok}
use Rattle.rv_exec.specs.Effects.{exec_state_of}
use Rattle.rv_exec.specs.Registers.{with_pc}
use Rattle.trace_model.specs.declared.observer.Observed.TheVariants.{Taken}
use Rattle.guest_machine.specs.Private.Rows.{RunsOn}
use Rattle.guest_machine.proofs.rows.run_page.Given as goal

abbrev pub invariant-steps : goal.invariant-steps
invariant-steps g l = record {
  runs : RunsOn g.W.Observer.stands (g.W.Observer.fits l.fn.observer) l.fn.tid l.fn.row (exec_state_of (with_pc l.fn.pc l.fn.cpu) l.fn.memory l.fn.held) l.fn.observer
      l.row (exec_state_of (with_pc l.pc l.cpu) l.fn.memory l.fn.held) l.observer (Ok Taken);
  grows : l.fn.row.told + l.fn.row.plain ≤ l.row.told + l.row.plain;
  whole : l.row.told + l.row.left ≡ l.fn.row.told + l.fn.row.left;
  same : g.W.Observer.fits l.observer ≡ g.W.Observer.fits l.fn.observer;
}

abbrev pub decreases-steps : goal.decreases-steps
decreases-steps g l = l.row.left - l.row.plain
