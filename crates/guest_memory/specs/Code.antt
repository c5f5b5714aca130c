-- The instructions that are known.
use Rattle.std.specs.Prelude.{◌≡◌, ℕ, ◌/◌, ◌%◌, List, Option, Some, None, Ok, get_or, map, IfSome}
use Rattle.guest_memory.specs.Memory.{Memory, loaded}
use Rattle.guest_memory.specs.declared.refusal.Permission.TheVariants as permission
use Rattle.rv_isa.specs.Table.{decoded}
use Rattle.rv_isa.specs.declared.instruction.Instr.{Instr}
use Rattle.guest_memory.specs.declared.decoded.Decoded.{Decoded}
use Rattle.guest_memory.specs.declared.decoded.Decoded.TheVariants.{Unknown, Lui, Auipc, Jal, Jalr, Beq, Bne, Blt, Bge, Bltu, Bgeu, Lb, Lh, Lw, Lbu, Lhu, Sb, Sh, Sw, Addi, Slti, Sltiu, Xori, Ori, Andi, Slli, Srli, Srai, Add, Sub, Sll, Slt, Sltu, Xor, Srl, Sra, Or, And, Mul, Mulh, Mulhsu, Mulhu, Div, Divu, Rem, Remu, Atomic, Fence, FenceI, Ecall, Ebreak}
use Rattle.rv_isa.specs.declared.instruction.Test.TheVariants as test
use Rattle.rv_isa.specs.declared.instruction.LoadKind.TheVariants as load
use Rattle.rv_isa.specs.declared.instruction.StoreKind.TheVariants as store
use Rattle.rv_isa.specs.declared.instruction.ImmOp.TheVariants as operation
use Rattle.rv_isa.specs.declared.instruction.RegOp.TheVariants as reg
use Rattle.rv_isa.specs.declared.instruction.Instr.TheVariants as instr

-- The word that can be fetched at an address stands for the instruction.
pub record IsInstructionAt (m : Memory) (at : ℕ) (i : Instr) : Type 0 where
  pub word : ℕ
  pub loads : loaded m permission.Execute at 4 ≡ Ok word
  pub stands : decoded word ≡ Some i

-- Each instruction that is known of a page, by its number and its words, is that of its word, which can be fetched.
abbrev pub IsCodeOf : Memory → ℕ × List (Option Instr) → Type 0
IsCodeOf m page =
    (at : ℕ) → at % 4 ≡ 0 → at / 4096 ≡ page.0
    → IfSome (get_or page.1 (at / 4 % 1024) None) (IsInstructionAt m at)

-- ---- the words that a page lends
-- the instruction that is known of a word
abbrev pub known_of : Decoded → Option Instr
known_of Unknown = None
known_of (Lui rd imm) = Some (instr.Lui rd imm)
known_of (Auipc rd imm) = Some (instr.Auipc rd imm)
known_of (Jal rd offset) = Some (instr.Jal rd offset)
known_of (Jalr rd base offset) = Some (instr.Jalr rd base offset)
known_of (Beq left right offset) = Some (instr.Branch test.Eq left right offset)
known_of (Bne left right offset) = Some (instr.Branch test.Ne left right offset)
known_of (Blt left right offset) = Some (instr.Branch test.Lt left right offset)
known_of (Bge left right offset) = Some (instr.Branch test.Ge left right offset)
known_of (Bltu left right offset) = Some (instr.Branch test.Ltu left right offset)
known_of (Bgeu left right offset) = Some (instr.Branch test.Geu left right offset)
known_of (Lb rd base offset) = Some (instr.Load load.Lb rd base offset)
known_of (Lh rd base offset) = Some (instr.Load load.Lh rd base offset)
known_of (Lw rd base offset) = Some (instr.Load load.Lw rd base offset)
known_of (Lbu rd base offset) = Some (instr.Load load.Lbu rd base offset)
known_of (Lhu rd base offset) = Some (instr.Load load.Lhu rd base offset)
known_of (Sb value base offset) = Some (instr.Store store.Sb value base offset)
known_of (Sh value base offset) = Some (instr.Store store.Sh value base offset)
known_of (Sw value base offset) = Some (instr.Store store.Sw value base offset)
known_of (Addi rd left imm) = Some (instr.Immediate operation.Addi rd left imm)
known_of (Slti rd left imm) = Some (instr.Immediate operation.Slti rd left imm)
known_of (Sltiu rd left imm) = Some (instr.Immediate operation.Sltiu rd left imm)
known_of (Xori rd left imm) = Some (instr.Immediate operation.Xori rd left imm)
known_of (Ori rd left imm) = Some (instr.Immediate operation.Ori rd left imm)
known_of (Andi rd left imm) = Some (instr.Immediate operation.Andi rd left imm)
known_of (Slli rd left imm) = Some (instr.Immediate operation.Slli rd left imm)
known_of (Srli rd left imm) = Some (instr.Immediate operation.Srli rd left imm)
known_of (Srai rd left imm) = Some (instr.Immediate operation.Srai rd left imm)
known_of (Add rd left right) = Some (instr.Register reg.Add rd left right)
known_of (Sub rd left right) = Some (instr.Register reg.Sub rd left right)
known_of (Sll rd left right) = Some (instr.Register reg.Sll rd left right)
known_of (Slt rd left right) = Some (instr.Register reg.Slt rd left right)
known_of (Sltu rd left right) = Some (instr.Register reg.Sltu rd left right)
known_of (Xor rd left right) = Some (instr.Register reg.Xor rd left right)
known_of (Srl rd left right) = Some (instr.Register reg.Srl rd left right)
known_of (Sra rd left right) = Some (instr.Register reg.Sra rd left right)
known_of (Or rd left right) = Some (instr.Register reg.Or rd left right)
known_of (And rd left right) = Some (instr.Register reg.And rd left right)
known_of (Mul rd left right) = Some (instr.Register reg.Mul rd left right)
known_of (Mulh rd left right) = Some (instr.Register reg.Mulh rd left right)
known_of (Mulhsu rd left right) = Some (instr.Register reg.Mulhsu rd left right)
known_of (Mulhu rd left right) = Some (instr.Register reg.Mulhu rd left right)
known_of (Div rd left right) = Some (instr.Register reg.Div rd left right)
known_of (Divu rd left right) = Some (instr.Register reg.Divu rd left right)
known_of (Rem rd left right) = Some (instr.Register reg.Rem rd left right)
known_of (Remu rd left right) = Some (instr.Register reg.Remu rd left right)
known_of (Atomic op rd base value order) = Some (instr.Atomic op rd base value order)
known_of Fence = Some instr.Fence
known_of FenceI = Some instr.FenceI
known_of Ecall = Some instr.Ecall
known_of Ebreak = Some instr.Ebreak

-- They are the code of the page that begins at the address.
abbrev pub IsCodeFrom : Memory → ℕ → List Decoded → Type 0
IsCodeFrom m first words = IsCodeOf m (first / 4096, map known_of words)
