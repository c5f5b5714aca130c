-- Which instructions have a word: the ranges of their fields, by the RISC-V Instruction Set Manual, Volume I,
-- section "Immediate Encoding Variants".
use Rattle.std.specs.Prelude.{◌≡◌, ℕ, ◌%◌, ◌^◌, ◌<◌, ℤ, pos, neg_ℤ, ◌≤ℤ◌, unsigned_abs}
use Rattle.rv_isa.specs.declared.instruction.ImmOp.{ImmOp}
use Rattle.rv_isa.specs.declared.instruction.ImmOp.TheVariants.{Slli, Srli, Srai}
use Rattle.rv_isa.specs.declared.instruction.AtomicOp.{AtomicOp}
use Rattle.rv_isa.specs.declared.instruction.AtomicOp.TheVariants.{Lr}
use Rattle.rv_isa.specs.declared.instruction.Instr.{Instr}
use Rattle.rv_isa.specs.declared.instruction.Instr.TheVariants.{Lui, Auipc, Jal, Jalr, Branch, Load, Store, Immediate, Register, Atomic, Fence, FenceI, Ecall, Ebreak}

-- a number from `low` to `high`, both included
abbrev pub IsWithin : ℤ → ℤ → ℤ → Type 0
IsWithin low high z = (low ≤ℤ z) × (z ≤ℤ high)

-- an offset is in bytes, and a multiple of two
abbrev pub IsEven : ℤ → Type 0
IsEven z = unsigned_abs z % 2 ≡ 0

-- the immediate of the formats I and S
abbrev pub IsImmediate : ℤ → Type 0
IsImmediate z = IsWithin (neg_ℤ (pos 2048)) (pos 2047) z

-- that of the format B
abbrev pub IsBranchOffset : ℤ → Type 0
IsBranchOffset z = IsEven z × IsWithin (neg_ℤ (pos 4096)) (pos 4094) z

-- that of the format J
abbrev pub IsJumpOffset : ℤ → Type 0
IsJumpOffset z = IsEven z × IsWithin (neg_ℤ (pos 1048576)) (pos 1048574) z

-- a constant amount of a shift
abbrev pub IsAmount : ℤ → Type 0
IsAmount z = IsWithin (pos 0) (pos 31) z

-- a shift takes an amount, each other operation an immediate
abbrev pub IsOperand : ImmOp → ℤ → Type 0
IsOperand Slli z = IsAmount z
IsOperand Srli z = IsAmount z
IsOperand Srai z = IsAmount z
IsOperand _ z = IsImmediate z

-- LR has no value register: its field is x0
abbrev pub IsValueOf : AtomicOp → ℕ → Type 0
IsValueOf op value = op ≡ Lr → value ≡ 0

-- each field is in its range
abbrev pub IsEncodable : Instr → Type 0
IsEncodable (Lui rd imm) = imm < 2 ^ 20
IsEncodable (Auipc rd imm) = imm < 2 ^ 20
IsEncodable (Jal rd offset) = IsJumpOffset offset
IsEncodable (Jalr rd base offset) = IsImmediate offset
IsEncodable (Branch test left right offset) = IsBranchOffset offset
IsEncodable (Load kind rd base offset) = IsImmediate offset
IsEncodable (Store kind value base offset) = IsImmediate offset
IsEncodable (Immediate op rd left imm) = IsOperand op imm
IsEncodable (Register op rd left right) = Unit {0}
IsEncodable (Atomic op rd base value order) = (order < 4) × IsValueOf op value
IsEncodable Fence = Unit {0}
IsEncodable FenceI = Unit {0}
IsEncodable Ecall = Unit {0}
IsEncodable Ebreak = Unit {0}
