use Rattle.std.proofs.Common.{◌∙◌, sym}
use Rattle.guest_memory.specs.State.{memory_in}
use Rattle.guest_memory.specs.Guest.{memory_of}
use Rattle.guest_memory.proofs.memory.GuestMemory.learn_instruction.Goals as goal

pub invariant_of-self-clause-coherent : goal.invariant_of-self-clause-coherent
unfolding memory_of
invariant_of-self-clause-coherent c = c.learn.ensures (memory_in c.args.self.now.directory) c.args.self.now.coherent (sym c.fetch.ensures ∙ c.in-Ok.is)
