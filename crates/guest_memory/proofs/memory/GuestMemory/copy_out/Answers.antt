use Rattle.std.proofs.Common.{◌∙◌, sym, length}
use Rattle.guest_memory.specs.State.{memory_in}
use Rattle.guest_memory.specs.declared.refusal.Permission.TheVariants.{Read}
use Rattle.guest_memory.specs.Guest.{memory_of}
use Rattle.guest_memory.proofs.Accesses.{refusal_mapped}
use Rattle.guest_memory.proofs.memory.GuestMemory.copy_out.Goals as goal

pub read_all-requires-clause-mapped : goal.read_all-requires-clause-mapped
unfolding memory_of
read_all-requires-clause-mapped c = refusal_mapped (memory_in c.args.self.now.directory) Read c.from-from.result (length c.args.into.now) (sym c.first_refusal.ensures ∙ c.in-None.is)
