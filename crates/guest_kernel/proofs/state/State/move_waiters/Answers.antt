use Rattle.std.proofs.Common.{List, length, ap, arith, ◌∙◌}
use Rattle.futex_table.specs.declared.waiter.Waiter.{Waiter}
use Rattle.futex_table.specs.Waiting.{all_bits, woken}
use Rattle.guest_kernel.specs.Waits.{moved_at}
use Rattle.guest_kernel.specs.Kernel.{KernelState}
use Rattle.guest_kernel.specs.State.{state_in}
use Rattle.guest_kernel.proofs.Queues.{few_shifted, moved_is_state, moves_only, shifts_only}
use Rattle.guest_kernel.proofs.state.State.move_waiters.Goals as goal

pub invariant_of-self : goal.invariant_of-self
invariant_of-self c =
    let k = state_in c.self.inside in
    record {
      room = c.self.invariant.room;
      state = moved_is_state k _ c.args.at c.args.most c.args.to c.self.invariant.state (ap (λ (w : List Waiter). record k { waiting = w }) (c.requeue-moved.ensures.after ∙ moves_only c.self.inside.waiting c.args.at c.args.most c.args.to));
    }

pub returns-clause-moved : goal.returns-clause-moved
returns-clause-moved c =
    c.requeue-moved.ensures.moved ∙ shifts_only c.self.inside.waiting c.args.at c.args.most
    ∙ ap (λ (k : KernelState). length (woken k.waiting c.args.at c.args.most all_bits)) c.self.view_is

pub returns-clause-few : goal.returns-clause-few
returns-clause-few c =
    let few = few_shifted c.self.inside.waiting c.args.at 0 c.args.most in
    omega (arith, few, c.len.ensures.len, c.len.ensures.bound, c.requeue-moved.ensures.moved)

pub returns-clause-after : goal.returns-clause-after
returns-clause-after c =
    let k = state_in c.self.inside in
    ap (λ (w : List Waiter). record k { waiting = w }) (c.requeue-moved.ensures.after ∙ moves_only c.self.inside.waiting c.args.at c.args.most c.args.to)
    ∙ ap (moved_at c.args.at c.args.most c.args.to) c.self.view_is
