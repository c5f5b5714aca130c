-- A program that is accepted has no jump out of reach.
use Rattle.std.proofs.Common.{ℕ}
use Rattle.rv_isa.specs.declared.instruction.Instr.TheVariants.{Ecall}
use Rattle.rv_asm.specs.Draft.{Draft}
use Rattle.rv_asm.specs.Refusals.{IsAccepted, IsFirstOut}
use Rattle.demo_guest.specs.Private.Drafts.{plain}

pub no_first_out : (d : Draft) (at : ℕ) → IsAccepted d → IsFirstOut d at → ⊥
no_first_out d at accepted first = first.out (plain Ecall) (accepted.reach at first.inside (plain Ecall))
