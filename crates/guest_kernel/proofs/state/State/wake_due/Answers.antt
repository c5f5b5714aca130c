use Rattle.std.proofs.Common.{List, ap₂}
use Rattle.futex_table.specs.declared.waiter.Waiter.{Waiter}
use Rattle.virtual_clock.specs.declared.deadline.Deadline.{Deadline}
use Rattle.guest_kernel.specs.State.{state_in}
use Rattle.guest_kernel.proofs.ClockWakings.{due_is_state}
use Rattle.guest_kernel.proofs.state.State.wake_due.Goals as goal

pub invariant_of-self-2 : goal.invariant_of-self-2
invariant_of-self-2 c =
    let k = state_in c.self.inside in
    record {
      room = c.self.invariant.room;
      state = due_is_state k _ c.self.inside.time c.in_ok-tid.tid c.self.invariant.state (ap₂ (λ (ws : List Waiter) (ds : List Deadline). record k { waiting = ws; deadlines = ds }) c.forget.ensures.after c.due.ensures.after);
    }

pub returns-clause-state : goal.returns-clause-state
returns-clause-state c =
    let k = state_in c.self.inside in
    due_is_state k _ c.self.inside.time c.in_ok-tid.tid c.self.invariant.state (ap₂ (λ (ws : List Waiter) (ds : List Deadline). record k { waiting = ws; deadlines = ds }) c.forget.ensures.after c.due.ensures.after)
