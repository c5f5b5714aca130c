use Rattle.std.proofs.Common.{◌≡◌, ◌∙◌, ap, refl, sym, subst, length}
use Rattle.guest_memory.specs.Private.HeldCode.{HoldsCode}
use Rattle.guest_memory.specs.Memory.{with_bytes}
use Rattle.guest_memory.specs.State.{memory_in}
use Rattle.guest_memory.specs.declared.refusal.Permission.TheVariants.{Write}
use Rattle.guest_memory.specs.Guest.{memory_of}
use Rattle.guest_memory.proofs.Accesses.{refusal_mapped}
use Rattle.guest_memory.proofs.memory.GuestMemory.copy_in.Goals as goal

pub write_all-requires-clause-mapped : goal.write_all-requires-clause-mapped
unfolding memory_of
write_all-requires-clause-mapped c = refusal_mapped (memory_in c.args.self.now.directory) Write c.from-first.result (length c.args.bytes.now) (sym c.first_refusal.ensures ∙ c.in-None.is)

pub invariant_of-self-clause-coherent : goal.invariant_of-self-clause-coherent
unfolding memory_of
invariant_of-self-clause-coherent c =
    let m = memory_in c.args.self.now.directory in
    let written : memory_in c.write_all.new.self ≡ with_bytes m c.args.at c.args.bytes.now = c.write_all.ensures ∙ ap (λ at. with_bytes m at c.args.bytes.now) c.from-first.ensures in
    subst (HoldsCode c.forget.new.self) (sym written) (c.forget.ensures m c.args.bytes.now refl c.args.self.now.coherent)
