use Rattle.std.proofs.Common.{◌≡◌, ap, List, ◌+◌, sym, ◌∙◌, arith}
use Rattle.guest_kernel.specs.declared.thread.Thread.{Thread}
use Rattle.guest_kernel.specs.Threads.{is_full}
use Rattle.guest_kernel.specs.Kernel.{KernelState}
use Rattle.guest_kernel.specs.State.{state_in}
use Rattle.guest_kernel.proofs.Births.{born_is_state}
use Rattle.guest_kernel.proofs.state.State.add_thread.Goals as goal

pub invariant_of-self : goal.invariant_of-self
invariant_of-self c =
    let k = state_in c.self.inside in
    let capacity = c.push.ensures.capacity in
    let room = c.self.invariant.room in
    let next : c.args.tid ≡ k.last_tid + 1 = c.requires.next ∙ ap (λ (s : KernelState). s.last_tid + 1) (sym c.self.view_is) in
    let items = rw c.unwrap.ensures at c.push.ensures.items in
    record {
      room = omega (arith, capacity, room);
      state = born_is_state k _ c.args.tid c.args.clear_tid c.self.invariant.state next (ap (λ (s : KernelState). is_full s) c.self.view_is ∙ c.requires.room) (ap (λ (ts : List Thread). record k { threads = ts; last_tid = c.args.tid }) items);
    }
