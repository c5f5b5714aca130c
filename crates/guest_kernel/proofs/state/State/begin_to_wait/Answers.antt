use Rattle.std.proofs.Common.{◌≡◌, true, ap, ◌∙◌, arith}
use Rattle.guest_kernel.specs.Kernel.{KernelState, can_run}
use Rattle.guest_kernel.specs.State.{state_in}
use Rattle.guest_kernel.proofs.Queues.{fewer_wait}
use Rattle.guest_kernel.proofs.state.State.begin_to_wait.Goals as goal

pub prove-unreachable-requires : goal.prove-unreachable-requires
prove-unreachable-requires c =
    let can : can_run (state_in c.self.inside) c.args.tid ≡ true = ap (λ (s : KernelState). can_run s c.args.tid) c.self.view_is ∙ c.requires.can_run in
    let fewer = fewer_wait (state_in c.self.inside) c.args.tid c.self.invariant.state c.len-waiting.ensures.once can in
    let test = c.if-prove.true in
    let len = c.len-waiting.ensures.len in
    let all = c.len.ensures in
    omega (arith, fewer, test, len, all)
