use Rattle.std.proofs.Common.{◌≡◌, true, Some, refl}
use Rattle.guest_memory.specs.Code.{known_of}
use Rattle.guest_memory.specs.declared.decoded.Decoded.{Decoded}
use Rattle.guest_memory.specs.declared.decoded.Decoded.TheVariants.{Unknown, Lui, Auipc, Jal, Jalr, Beq, Bne, Blt, Bge, Bltu, Bgeu, Lb, Lh, Lw, Lbu, Lhu, Sb, Sh, Sw, Addi, Slti, Sltiu, Xori, Ori, Andi, Slli, Srli, Srai, Add, Sub, Sll, Slt, Sltu, Xor, Srl, Sra, Or, And, Mul, Mulh, Mulhsu, Mulhu, Div, Divu, Rem, Remu, Atomic, Fence, FenceI, Ecall, Ebreak}
use Rattle.rv_isa.specs.declared.instruction.Instr.{Instr}
use Rattle.rv_isa.specs.declared.instruction.Instr.TheVariants as instr
use Rattle.rv_isa.specs.declared.instruction.LoadKind.TheVariants as load
use Rattle.rv_isa.specs.declared.instruction.StoreKind.TheVariants as store
use Rattle.rv_exec.specs.Reading.{is_plain}
use Rattle.rv_exec.proofs.PlainSteps.{plain_too}
use Rattle.rv_exec.proofs.instruction.execute_plain.Goals as goal

pub returns-in_default-clause-stays : goal.returns-in_default-clause-stays
returns-in_default-clause-stays g c = λ stops. record { kept = refl; faults = λ i is plain. absurd (none c.args.d refl i is plain) } where
  none : (d : Decoded) → c.args.d ≡ d → (i : Instr) → known_of d ≡ Some i → is_plain i ≡ true → ⊥
  none Unknown same i is plain = absurd (cc)
  none (Lui rd imm) same i is plain = c.in_default.not-Lui rd imm same
  none (Auipc rd imm) same i is plain = c.in_default.not-Auipc rd imm same
  none (Jal rd offset) same i is plain = let no : is_plain (instr.Jal rd offset) ≡ true = plain_too (instr.Jal rd offset) i is plain in absurd (cc)
  none (Jalr rd base offset) same i is plain = let no : is_plain (instr.Jalr rd base offset) ≡ true = plain_too (instr.Jalr rd base offset) i is plain in absurd (cc)
  none (Beq left right offset) same i is plain = c.in_default.not-Beq left right offset same
  none (Bne left right offset) same i is plain = c.in_default.not-Bne left right offset same
  none (Blt left right offset) same i is plain = c.in_default.not-Blt left right offset same
  none (Bge left right offset) same i is plain = c.in_default.not-Bge left right offset same
  none (Bltu left right offset) same i is plain = c.in_default.not-Bltu left right offset same
  none (Bgeu left right offset) same i is plain = c.in_default.not-Bgeu left right offset same
  none (Lb rd base offset) same i is plain = let no : is_plain (instr.Load load.Lb rd base offset) ≡ true = plain_too (instr.Load load.Lb rd base offset) i is plain in absurd (cc)
  none (Lh rd base offset) same i is plain = let no : is_plain (instr.Load load.Lh rd base offset) ≡ true = plain_too (instr.Load load.Lh rd base offset) i is plain in absurd (cc)
  none (Lw rd base offset) same i is plain = let no : is_plain (instr.Load load.Lw rd base offset) ≡ true = plain_too (instr.Load load.Lw rd base offset) i is plain in absurd (cc)
  none (Lbu rd base offset) same i is plain = let no : is_plain (instr.Load load.Lbu rd base offset) ≡ true = plain_too (instr.Load load.Lbu rd base offset) i is plain in absurd (cc)
  none (Lhu rd base offset) same i is plain = let no : is_plain (instr.Load load.Lhu rd base offset) ≡ true = plain_too (instr.Load load.Lhu rd base offset) i is plain in absurd (cc)
  none (Sb value base offset) same i is plain = let no : is_plain (instr.Store store.Sb value base offset) ≡ true = plain_too (instr.Store store.Sb value base offset) i is plain in absurd (cc)
  none (Sh value base offset) same i is plain = let no : is_plain (instr.Store store.Sh value base offset) ≡ true = plain_too (instr.Store store.Sh value base offset) i is plain in absurd (cc)
  none (Sw value base offset) same i is plain = let no : is_plain (instr.Store store.Sw value base offset) ≡ true = plain_too (instr.Store store.Sw value base offset) i is plain in absurd (cc)
  none (Addi rd left imm) same i is plain = c.in_default.not-Addi rd left imm same
  none (Slti rd left imm) same i is plain = c.in_default.not-Slti rd left imm same
  none (Sltiu rd left imm) same i is plain = c.in_default.not-Sltiu rd left imm same
  none (Xori rd left imm) same i is plain = c.in_default.not-Xori rd left imm same
  none (Ori rd left imm) same i is plain = c.in_default.not-Ori rd left imm same
  none (Andi rd left imm) same i is plain = c.in_default.not-Andi rd left imm same
  none (Slli rd left imm) same i is plain = c.in_default.not-Slli rd left imm same
  none (Srli rd left imm) same i is plain = c.in_default.not-Srli rd left imm same
  none (Srai rd left imm) same i is plain = c.in_default.not-Srai rd left imm same
  none (Add rd left right) same i is plain = c.in_default.not-Add rd left right same
  none (Sub rd left right) same i is plain = c.in_default.not-Sub rd left right same
  none (Sll rd left right) same i is plain = c.in_default.not-Sll rd left right same
  none (Slt rd left right) same i is plain = c.in_default.not-Slt rd left right same
  none (Sltu rd left right) same i is plain = c.in_default.not-Sltu rd left right same
  none (Xor rd left right) same i is plain = c.in_default.not-Xor rd left right same
  none (Srl rd left right) same i is plain = c.in_default.not-Srl rd left right same
  none (Sra rd left right) same i is plain = c.in_default.not-Sra rd left right same
  none (Or rd left right) same i is plain = c.in_default.not-Or rd left right same
  none (And rd left right) same i is plain = c.in_default.not-And rd left right same
  none (Mul rd left right) same i is plain = c.in_default.not-Mul rd left right same
  none (Mulh rd left right) same i is plain = c.in_default.not-Mulh rd left right same
  none (Mulhsu rd left right) same i is plain = c.in_default.not-Mulhsu rd left right same
  none (Mulhu rd left right) same i is plain = c.in_default.not-Mulhu rd left right same
  none (Div rd left right) same i is plain = c.in_default.not-Div rd left right same
  none (Divu rd left right) same i is plain = c.in_default.not-Divu rd left right same
  none (Rem rd left right) same i is plain = c.in_default.not-Rem rd left right same
  none (Remu rd left right) same i is plain = c.in_default.not-Remu rd left right same
  none (Atomic op rd base value order) same i is plain = let no : is_plain (instr.Atomic op rd base value order) ≡ true = plain_too (instr.Atomic op rd base value order) i is plain in absurd (cc)
  none Fence same i is plain = c.in_default.not-Fence same
  none FenceI same i is plain = c.in_default.not-FenceI same
  none Ecall same i is plain = let no : is_plain instr.Ecall ≡ true = plain_too instr.Ecall i is plain in absurd (cc)
  none Ebreak same i is plain = let no : is_plain instr.Ebreak ≡ true = plain_too instr.Ebreak i is plain in absurd (cc)
