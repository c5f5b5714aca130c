use Rattle.std.proofs.Common.{◌≡◌, length, ap, arith}
use Rattle.futex_table.specs.Waiting.{all_bits}
use Rattle.guest_kernel.specs.Kernel.{KernelState}
use Rattle.guest_kernel.specs.State.{state_in}
use Rattle.guest_kernel.proofs.Queues.{few_woken}
use Rattle.guest_kernel.proofs.state.State.requeue.Goals as goal

pub returns-clause-few : goal.returns-clause-few
returns-clause-few c =
    let few = few_woken c.args.self.now.waiting c.args.at c.args.most all_bits in
    let same : length (state_in c.self.inside).waiting ≡ length c.args.self.now.waiting = ap (λ (k : KernelState). length k.waiting) c.self.view_is in
    (omega (arith, few, same, c.len.ensures.len, c.len.ensures.bound, c.wake-count.ensures.count), c.move_waiters-moved.ensures.few)
