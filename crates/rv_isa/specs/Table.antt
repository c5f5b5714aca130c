-- The instruction table of RV32IMA and FENCE.I: the RISC-V Instruction Set Manual, Volume I: Unprivileged
-- Architecture, chapter "RV32/64G Instruction Set Listings", in its order and by its extensions.
use Rattle.std.specs.Prelude.{◌≡◌, ◌≢◌, ◌<◌, ◌^◌, ℕ, ℤ, pos, Bool, false, IsTrue, All, AllPairs, nat_eq, bit_and, Option, Some, None, List, [], ◌∷◌, if◌then◌else◌}
use Rattle.rv_isa.specs.Fields.{rd, rs1, rs2, order, immediate_i, immediate_s, immediate_b, immediate_u, immediate_j}
use Rattle.rv_isa.specs.declared.instruction.Test.TheVariants.{Eq, Ne, Lt, Ge, Ltu, Geu}
use Rattle.rv_isa.specs.declared.instruction.LoadKind.TheVariants.{Lb, Lh, Lw, Lbu, Lhu}
use Rattle.rv_isa.specs.declared.instruction.StoreKind.TheVariants.{Sb, Sh, Sw}
use Rattle.rv_isa.specs.declared.instruction.ImmOp.TheVariants.{Addi, Slti, Sltiu, Xori, Ori, Andi, Slli, Srli, Srai}
use Rattle.rv_isa.specs.declared.instruction.RegOp.TheVariants as reg
use Rattle.rv_isa.specs.declared.instruction.AtomicOp.TheVariants as amo
use Rattle.rv_isa.specs.declared.instruction.Instr.{Instr}
use Rattle.rv_isa.specs.declared.instruction.Instr.TheVariants.{Lui, Auipc, Jal, Jalr, Branch, Load, Store, Immediate, Register, Atomic, Fence, FenceI, Ecall, Ebreak}

-- A row of the table. The mask has a 1 at each bit that the listing fixes, and the match has those bits, as the
-- constants MASK_ and MATCH_ of the project riscv-opcodes do. The other bits complete the instruction.
pub record Row : Type 0 where
  pub mask : ℕ
  pub «match» : ℕ
  pub instruction : ℕ → Instr

-- one line of the listing
abbrev pub row : ℕ → ℕ → (ℕ → Instr) → Row
row mask m instruction = record { mask = mask; «match» = m; instruction = instruction }

-- ---- the formats, which say what fields complete an instruction
abbrev pub r_type : (ℕ → ℕ → ℕ → Instr) → ℕ → Instr
r_type form inst = form (rd inst) (rs1 inst) (rs2 inst)

abbrev pub i_type : (ℕ → ℕ → ℤ → Instr) → ℕ → Instr
i_type form inst = form (rd inst) (rs1 inst) (immediate_i inst)

-- a shift by a constant, which stands in the place of rs2
abbrev pub shift_type : (ℕ → ℕ → ℤ → Instr) → ℕ → Instr
shift_type form inst = form (rd inst) (rs1 inst) (pos (rs2 inst))

abbrev pub s_type : (ℕ → ℕ → ℤ → Instr) → ℕ → Instr
s_type form inst = form (rs2 inst) (rs1 inst) (immediate_s inst)

abbrev pub b_type : (ℕ → ℕ → ℤ → Instr) → ℕ → Instr
b_type form inst = form (rs1 inst) (rs2 inst) (immediate_b inst)

abbrev pub u_type : (ℕ → ℕ → Instr) → ℕ → Instr
u_type form inst = form (rd inst) (immediate_u inst)

abbrev pub j_type : (ℕ → ℤ → Instr) → ℕ → Instr
j_type form inst = form (rd inst) (immediate_j inst)

-- an atomic operation: the R format, whose funct7 ends in the bits aq and rl
abbrev pub atomic_type : (ℕ → ℕ → ℕ → ℕ → Instr) → ℕ → Instr
atomic_type form inst = form (rd inst) (rs1 inst) (rs2 inst) (order inst)

-- no field is read
abbrev pub no_field : Instr → ℕ → Instr
no_field form inst = form

-- ---- the table
-- The masks are of these fields: 0x7F of the opcode, 0x707F also of funct3, 0xFE00_707F also of funct7,
-- 0xF800_707F of funct5 in the place of funct7, 0xF9F0_707F also of rs2, and 0xFFFF_FFFF of the whole word.
-- The other fields of FENCE and FENCE.I are ignored, as the manual asks of a plain implementation.
unfoldable pub table : List Row
table =
    -- RV32I Base Instruction Set
    row 0x0000_007F 0x0000_0037 (u_type Lui)
    ∷ row 0x0000_007F 0x0000_0017 (u_type Auipc)
    ∷ row 0x0000_007F 0x0000_006F (j_type Jal)
    ∷ row 0x0000_707F 0x0000_0067 (i_type Jalr)
    ∷ row 0x0000_707F 0x0000_0063 (b_type (Branch Eq))
    ∷ row 0x0000_707F 0x0000_1063 (b_type (Branch Ne))
    ∷ row 0x0000_707F 0x0000_4063 (b_type (Branch Lt))
    ∷ row 0x0000_707F 0x0000_5063 (b_type (Branch Ge))
    ∷ row 0x0000_707F 0x0000_6063 (b_type (Branch Ltu))
    ∷ row 0x0000_707F 0x0000_7063 (b_type (Branch Geu))
    ∷ row 0x0000_707F 0x0000_0003 (i_type (Load Lb))
    ∷ row 0x0000_707F 0x0000_1003 (i_type (Load Lh))
    ∷ row 0x0000_707F 0x0000_2003 (i_type (Load Lw))
    ∷ row 0x0000_707F 0x0000_4003 (i_type (Load Lbu))
    ∷ row 0x0000_707F 0x0000_5003 (i_type (Load Lhu))
    ∷ row 0x0000_707F 0x0000_0023 (s_type (Store Sb))
    ∷ row 0x0000_707F 0x0000_1023 (s_type (Store Sh))
    ∷ row 0x0000_707F 0x0000_2023 (s_type (Store Sw))
    ∷ row 0x0000_707F 0x0000_0013 (i_type (Immediate Addi))
    ∷ row 0x0000_707F 0x0000_2013 (i_type (Immediate Slti))
    ∷ row 0x0000_707F 0x0000_3013 (i_type (Immediate Sltiu))
    ∷ row 0x0000_707F 0x0000_4013 (i_type (Immediate Xori))
    ∷ row 0x0000_707F 0x0000_6013 (i_type (Immediate Ori))
    ∷ row 0x0000_707F 0x0000_7013 (i_type (Immediate Andi))
    ∷ row 0xFE00_707F 0x0000_1013 (shift_type (Immediate Slli))
    ∷ row 0xFE00_707F 0x0000_5013 (shift_type (Immediate Srli))
    ∷ row 0xFE00_707F 0x4000_5013 (shift_type (Immediate Srai))
    ∷ row 0xFE00_707F 0x0000_0033 (r_type (Register reg.Add))
    ∷ row 0xFE00_707F 0x4000_0033 (r_type (Register reg.Sub))
    ∷ row 0xFE00_707F 0x0000_1033 (r_type (Register reg.Sll))
    ∷ row 0xFE00_707F 0x0000_2033 (r_type (Register reg.Slt))
    ∷ row 0xFE00_707F 0x0000_3033 (r_type (Register reg.Sltu))
    ∷ row 0xFE00_707F 0x0000_4033 (r_type (Register reg.Xor))
    ∷ row 0xFE00_707F 0x0000_5033 (r_type (Register reg.Srl))
    ∷ row 0xFE00_707F 0x4000_5033 (r_type (Register reg.Sra))
    ∷ row 0xFE00_707F 0x0000_6033 (r_type (Register reg.Or))
    ∷ row 0xFE00_707F 0x0000_7033 (r_type (Register reg.And))
    ∷ row 0x0000_707F 0x0000_000F (no_field Fence)
    ∷ row 0xFFFF_FFFF 0x0000_0073 (no_field Ecall)
    ∷ row 0xFFFF_FFFF 0x0010_0073 (no_field Ebreak)
    -- RV32 Zifencei Standard Extension
    ∷ row 0x0000_707F 0x0000_100F (no_field FenceI)
    -- RV32M Standard Extension
    ∷ row 0xFE00_707F 0x0200_0033 (r_type (Register reg.Mul))
    ∷ row 0xFE00_707F 0x0200_1033 (r_type (Register reg.Mulh))
    ∷ row 0xFE00_707F 0x0200_2033 (r_type (Register reg.Mulhsu))
    ∷ row 0xFE00_707F 0x0200_3033 (r_type (Register reg.Mulhu))
    ∷ row 0xFE00_707F 0x0200_4033 (r_type (Register reg.Div))
    ∷ row 0xFE00_707F 0x0200_5033 (r_type (Register reg.Divu))
    ∷ row 0xFE00_707F 0x0200_6033 (r_type (Register reg.Rem))
    ∷ row 0xFE00_707F 0x0200_7033 (r_type (Register reg.Remu))
    -- RV32A Standard Extension
    ∷ row 0xF9F0_707F 0x1000_202F (atomic_type (Atomic amo.Lr))
    ∷ row 0xF800_707F 0x1800_202F (atomic_type (Atomic amo.Sc))
    ∷ row 0xF800_707F 0x0800_202F (atomic_type (Atomic amo.Swap))
    ∷ row 0xF800_707F 0x0000_202F (atomic_type (Atomic amo.Add))
    ∷ row 0xF800_707F 0x2000_202F (atomic_type (Atomic amo.Xor))
    ∷ row 0xF800_707F 0x6000_202F (atomic_type (Atomic amo.And))
    ∷ row 0xF800_707F 0x4000_202F (atomic_type (Atomic amo.Or))
    ∷ row 0xF800_707F 0x8000_202F (atomic_type (Atomic amo.Min))
    ∷ row 0xF800_707F 0xA000_202F (atomic_type (Atomic amo.Max))
    ∷ row 0xF800_707F 0xC000_202F (atomic_type (Atomic amo.Minu))
    ∷ row 0xF800_707F 0xE000_202F (atomic_type (Atomic amo.Maxu))
    ∷ []

-- ---- what a word stands for
-- a word fits a row where the bits under its mask are its match
abbrev pub fits : ℕ → Row → Bool
fits inst r = nat_eq (bit_and inst r.mask) r.«match»

abbrev pub completed : ℕ → List Row → Option Instr
completed inst [] = None
completed inst (r ∷ rs) = if fits inst r then Some (r.instruction inst) else completed inst rs

-- the instruction of the row that a word fits, and None where it fits no row
unfoldable pub decoded : ℕ → Option Instr
decoded inst = completed inst table

-- ---- laws
-- no word fits two rows
abbrev pub NoWordFitsTwo : Type 0
NoWordFitsTwo = (inst : ℕ) → AllPairs (λ r s. IsTrue (fits inst r) → IsTrue (fits inst s) → ⊥) table

-- a word that fits a row stands for that row's instruction, wherever in the table the row is
abbrev pub EachRowDecides : Type 0
EachRowDecides = (inst : ℕ) → All (λ r. IsTrue (fits inst r) → decoded inst ≡ Some (r.instruction inst)) table

-- a word that fits no row stands for no instruction
abbrev pub NoRowNoInstruction : Type 0
NoRowNoInstruction = (inst : ℕ) → All (λ r. fits inst r ≡ false) table → decoded inst ≡ None

-- a match has no bit that its mask leaves out, so that some word fits the row
abbrev pub EachRowHasAWord : Type 0
EachRowHasAWord = All (λ r. IsTrue (fits r.«match» r)) table

-- but for the fences, whose other fields are ignored, no two words stand for one instruction
abbrev pub OneWordForAnInstruction : Type 0
OneWordForAnInstruction =
    (w v : ℕ) (i : Instr) → w < 2 ^ 32 → v < 2 ^ 32 → decoded w ≡ Some i → decoded v ≡ Some i → i ≢ Fence → i ≢ FenceI → w ≡ v
