use Rattle.std.proofs.Common.{◌≡◌, ◌∙◌, ap, refl, sym, subst}
use Rattle.guest_memory.specs.Private.HeldCode.{HoldsCode}
use Rattle.guest_memory.specs.Memory.{with_bytes}
use Rattle.guest_memory.specs.State.{memory_in}
use Rattle.guest_memory.proofs.memory.GuestMemory.first_contents.Goals as goal

pub invariant_of-self-clause-coherent : goal.invariant_of-self-clause-coherent
invariant_of-self-clause-coherent c =
    let m = memory_in c.args.self.now.directory in
    let written : memory_in c.write_all.new.self ≡ with_bytes m c.args.at c.args.bytes.now = c.write_all.ensures ∙ ap (λ at. with_bytes m at c.args.bytes.now) c.from.ensures in
    subst (HoldsCode c.forget.new.self) (sym written) (c.forget.ensures m c.args.bytes.now refl c.args.self.now.coherent)
