-- The instructions that can't write to memory, and what it means that one of them was carried out.
use Rattle.std.specs.Prelude.{◌≡◌, ℕ, Bool, true, false, Option, Some}
use Rattle.rv_isa.specs.declared.instruction.Instr.{Instr}
use Rattle.rv_isa.specs.declared.instruction.Instr.TheVariants.{Lui, Auipc, Branch, Store, Immediate, Register, Atomic, Fence, FenceI}
use Rattle.guest_memory.specs.Memory.{Memory}
use Rattle.guest_memory.specs.Reserved.{Reserved}
use Rattle.rv_exec.specs.Registers.{Registers}
use Rattle.rv_exec.specs.Effects.{effect}
use Rattle.rv_exec.specs.declared.outcome.Outcome.{Outcome}
use Rattle.rv_exec.specs.declared.outcome.Outcome.TheVariants.{Fault, Went}
use Rattle.rv_exec.specs.declared.outcome.Access.TheVariants as access
use Rattle.guest_words.specs.declared.endings.FaultKind.TheVariants as fault

-- whether an instruction may write to memory or reserve a word of it
abbrev pub may_write : Instr → Bool
may_write (Store kind from base offset) = true
may_write (Atomic op rd base from order) = true
may_write _ = false

-- whether an instruction accesses no memory, links no way back, and is no call of the kernel or a debugger
abbrev pub is_plain : Instr → Bool
is_plain (Lui rd imm) = true
is_plain (Auipc rd imm) = true
is_plain (Branch test left right offset) = true
is_plain (Immediate op rd left imm) = true
is_plain (Register op rd left right) = true
is_plain Fence = true
is_plain FenceI = true
is_plain _ = false

-- For any thread, whatever is reserved, the instruction has this outcome and leaves these registers; memory and reservations
-- stay.
abbrev pub CarriesOut : Instr → Memory → Registers → Outcome → Registers → Type 0
CarriesOut i memory old outcome new =
    (tid : ℕ) (held : Reserved)
    → effect tid i (record { registers = old; memory = memory; held = held })
    ≡ (outcome, record { registers = new; memory = memory; held = held })

-- ---- a plain instruction of a word that is decoded
-- The word's instruction is known and plain, and it goes.
pub record GoesPlainly (known : Option Instr) (old new : Registers) : Type 0 where
  pub instruction : Instr
  pub is : known ≡ Some instruction
  pub plain : is_plain instruction ≡ true
  pub made : (m : Memory) → CarriesOut instruction m old (Went access.Nothing) new

-- Nothing changes; if the word's instruction is plain, it is a branch to an address that is no multiple of 4.
pub record StaysPlainly (known : Option Instr) (old new : Registers) : Type 0 where
  pub kept : new ≡ old
  pub faults : (i : Instr) → known ≡ Some i → is_plain i ≡ true → (m : Memory)
      → CarriesOut i m old (Fault fault.JumpAlign) old
