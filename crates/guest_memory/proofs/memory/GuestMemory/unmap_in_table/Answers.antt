use Rattle.std.proofs.Common.{None, sym, subst}
use Rattle.guest_memory.specs.Private.HeldCode.{HoldsCode}
use Rattle.guest_memory.specs.Guest.{memory_of}
use Rattle.guest_memory.specs.State.{memory_in}
use Rattle.guest_memory.proofs.KeptCode.{agree_pages}
use Rattle.guest_memory.proofs.Unmapped.{none_to_unmap}
use Rattle.guest_memory.proofs.memory.GuestMemory.unmap_in_table.Goals as goal

pub invariant_of-self-clause-coherent : goal.invariant_of-self-clause-coherent
invariant_of-self-clause-coherent c =
    let m = memory_in c.args.self.now.directory in
    subst (HoldsCode c.forget_pages.new.self) (sym c.take_in_table-taken.ensures.memory)
    (c.forget_pages.ensures m _ (agree_pages m c.args.page c.args.count None) c.args.self.now.coherent)

pub returns-then-not-has_table : goal.returns-then-not-has_table
unfolding memory_of
returns-then-not-has_table c =
    sym (none_to_unmap c.args.self.now.directory c.args.page c.args.count c.requires.within (c.has_table.ensures c.if-not-has_table.true))
