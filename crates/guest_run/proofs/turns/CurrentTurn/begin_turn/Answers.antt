use Rattle.std.proofs.Common.{◌≡◌, ◌∙◌, true, ap, sym, subst}
use Rattle.guest_machine.specs.Kept.{machine_of}
use Rattle.guest_machine.specs.Laws.{KeepsThreads}
use Rattle.guest_machine.proofs.ClockWakings.{every_waking_keeps}
use Rattle.thread_sched.specs.TurnRule.{SchedulerState, turn_of}
use Rattle.guest_run.proofs.Chosen.{turn-can}
use Rattle.guest_run.proofs.turns.CurrentTurn.begin_turn.Goals as goal

pub returns-in-Run-clause-way : goal.returns-in-Run-clause-way
returns-in-Run-clause-way c = λ opens is.
    let m = machine_of c.wake_due.new.self in
    let opened : opens ≡ true = cc in (
      opened,
      record {
        last = sym (ap (λ (k : SchedulerState). k.last) c.in-Run.ensures.behind);
        able = turn-can c.args.self.now.scheduler m.kernel c.in-Run.tid c.in-Run.most (ap (turn_of c.args.self.now.scheduler) (sym c.ready_into.ensures) ∙ sym c.in-Run.ensures.turn);
      },
    )

pub returns-in-Run-clause-kept : goal.returns-in-Run-clause-kept
returns-in-Run-clause-kept c =
    let old = machine_of c.args.machine.now in
    subst (KeepsThreads old) (sym c.wake_due.ensures.woken) (every_waking_keeps old)

pub returns-in-Deadlock-clause-kept : goal.returns-in-Deadlock-clause-kept
returns-in-Deadlock-clause-kept c =
    let old = machine_of c.args.machine.now in
    subst (KeepsThreads old) (sym c.wake_due.ensures.woken) (every_waking_keeps old)

pub returns-in-Mismatch-clause-kept : goal.returns-in-Mismatch-clause-kept
returns-in-Mismatch-clause-kept c =
    let old = machine_of c.args.machine.now in
    subst (KeepsThreads old) (sym c.wake_due.ensures.woken) (every_waking_keeps old)
