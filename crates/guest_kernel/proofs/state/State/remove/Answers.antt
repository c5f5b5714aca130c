use Rattle.std.proofs.Common.{ap, List, arith}
use Rattle.guest_kernel.specs.declared.thread.Thread.{Thread}
use Rattle.guest_kernel.specs.State.{state_in}
use Rattle.guest_kernel.proofs.Leaving.{left_is_state}
use Rattle.guest_kernel.proofs.state.State.remove.Goals as goal

pub invariant_of-self : goal.invariant_of-self
invariant_of-self c =
    let k = state_in c.self.inside in
    record {
      room = let h = c.remove_thread.ensures.room in let r = c.self.invariant.room in grind (arith, h, r);
      state = left_is_state k _ c.args.tid c.self.invariant.state (search (c.requires, c.self.view_is)) (ap (λ (ts : List Thread). record k { threads = ts }) c.remove_thread.ensures.left);
    }
