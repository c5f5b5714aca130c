use Rattle.std.proofs.Common.{ap₂, List}
use Rattle.futex_table.specs.declared.waiter.Waiter.{Waiter}
use Rattle.virtual_clock.specs.declared.deadline.Deadline.{Deadline}
use Rattle.guest_kernel.specs.State.{state_in}
use Rattle.guest_kernel.proofs.Blocked.{unblocked_state}
use Rattle.guest_kernel.proofs.state.State.unblock.Goals as goal

pub invariant_of-self : goal.invariant_of-self
invariant_of-self c =
    let k = state_in c.self.inside in
    record {
      room = c.self.invariant.room;
      state = unblocked_state k _ c.args.tid c.self.invariant.state (ap₂ (λ (ws : List Waiter) (ds : List Deadline). record k { waiting = ws; deadlines = ds }) c.forget.ensures.after c.forget-2.ensures.after);
    }
