use Rattle.std.proofs.Common.{sym, subst}
use Rattle.guest_memory.specs.Private.HeldCode.{HoldsCode}
use Rattle.guest_memory.specs.State.{memory_in}
use Rattle.guest_memory.proofs.KeptCode.{agree_rights}
use Rattle.guest_memory.proofs.memory.GuestMemory.protect.Goals as goal

pub invariant_of-self-clause-coherent : goal.invariant_of-self-clause-coherent
invariant_of-self-clause-coherent c =
    let m = memory_in c.args.self.now.directory in
    subst (HoldsCode c.forget_pages.new.self) (sym c.set_all_rights.ensures.memory)
    (c.forget_pages.ensures m _ (agree_rights m c.args.page c.args.count c.args.rights) c.args.self.now.coherent)
