use Rattle.std.proofs.Common.{map, ap, List, ◌∙◌}
use Rattle.std.proofs.lemmas.List.{with_items_is}
use Rattle.guest_kernel.specs.declared.thread.Thread.{Thread}
use Rattle.guest_kernel.specs.State.{state_in}
use Rattle.guest_kernel.specs.Threads.{with_clear_tid}
use Rattle.guest_kernel.proofs.Leaving.{cleared_is_state}
use Rattle.guest_kernel.proofs.state.State.set_clear_tid.Goals as goal

pub invariant_of-self : goal.invariant_of-self
invariant_of-self c =
    let k = state_in c.self.inside in
    record {
      room = c.self.invariant.room;
      state = cleared_is_state k _ c.args.tid c.args.at c.self.invariant.state (ap (λ (ts : List Thread). record k { threads = ts }) (with_items_is c.self.inside.threads c.set_clear_tid.new.threads (c.set_clear_tid.auto.threads ∙ c.deref_mut.ensures.len) ∙ c.set_clear_tid.ensures ∙ ap (λ (ts : List Thread). map (with_clear_tid c.args.tid c.args.at) ts) c.deref_mut.ensures.value));
    }
