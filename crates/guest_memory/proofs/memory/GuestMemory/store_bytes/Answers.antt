use Rattle.std.proofs.Common.{◌∙◌, ap, sym, subst, arith, ◌≡◌}
use Rattle.guest_memory.specs.Private.HeldCode.{HoldsCode}
use Rattle.guest_memory.specs.State.{memory_in}
use Rattle.guest_memory.specs.Memory.{mapped_pages, with_bytes}
use Rattle.guest_memory.proofs.memory.GuestMemory.store_bytes.Goals as goal

pub invariant_of-self : goal.invariant_of-self
invariant_of-self c =
    let m = memory_in c.args.self.now.directory in
    let first = c.from-first.result in
    let stored : memory_in c.store_within.new.self ≡ with_bytes m first c.args.bytes.now = c.in-Ok.ensures.ok in
    record {
      counted = c.args.self.now.counted ∙ ap mapped_pages (sym stored);
      few = c.args.self.now.few;
      coherent = subst (HoldsCode c.forget_within.new.self) (sym stored) (c.forget_within.ensures m c.args.bytes.now (omega arith) c.args.self.now.coherent);
    }

pub invariant_of-self-in-Err-1 : goal.invariant_of-self-in-Err-1
invariant_of-self-in-Err-1 c = record {
  counted = c.args.self.now.counted ∙ ap mapped_pages (sym c.in-Err.ensures.err);
  few = c.args.self.now.few;
  coherent = subst (HoldsCode c.args.self.now.code) (sym c.in-Err.ensures.err) c.args.self.now.coherent;
}
