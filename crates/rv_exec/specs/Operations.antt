-- What the operations compute: the RISC-V Instruction Set Manual, Volume I, chapters "RV32I Base Integer Instruction
-- Set" and "M" Extension for Integer Multiplication and Division. A register holds 32 bits, seen as a number below
-- 2 ^ 32; where its bits are a signed number, `signed` gives that as an integer.
use Rattle.std.specs.Prelude.{ℕ, ◌+◌, ◌-◌, ◌*◌, ◌/◌, ◌%◌, ◌^◌, ℤ, pos, negsuc, ◌+ℤ◌, ◌-ℤ◌, ◌*ℤ◌, int_div, int_rem, int_lt, nat_lt, nat_eq, bit_and, bit_or, bit_xor, unsigned_abs, Bool, not, if◌then◌else◌}
use Rattle.std.specs.Int.{int_rem_euclid}
use Rattle.rv_isa.specs.Fields.{twos_complement}
use Rattle.rv_isa.specs.declared.instruction.RegOp.{RegOp}
use Rattle.rv_isa.specs.declared.instruction.RegOp.TheVariants.{Add, Sub, Sll, Slt, Sltu, Xor, Srl, Sra, Or, And, Mul, Mulh, Mulhsu, Mulhu, Div, Divu, Rem, Remu}
use Rattle.rv_isa.specs.declared.instruction.ImmOp.{ImmOp}
use Rattle.rv_isa.specs.declared.instruction.ImmOp.TheVariants.{Addi, Slti, Sltiu, Xori, Ori, Andi, Slli, Srli, Srai}
use Rattle.rv_isa.specs.declared.instruction.Test.{Test}
use Rattle.rv_isa.specs.declared.instruction.Test.TheVariants.{Eq, Ne, Lt, Ge, Ltu, Geu}

-- the number that 32 bits stand for in two's complement
abbrev pub signed : ℕ → ℤ
signed n = twos_complement (2 ^ 31) n

-- the lowest 32 bits of a number: the number modulo 2 ^ 32
abbrev pub low_32_bits : ℤ → ℕ
low_32_bits z = unsigned_abs (int_rem_euclid z (pos (2 ^ 32)))

-- a number shifted to the right by k bits, as a signed one: over 2 ^ k, rounded down
abbrev pub shifted_right : ℤ → ℕ → ℤ
shifted_right (pos n) k = pos (n / 2 ^ k)
shifted_right (negsuc n) k = negsuc (n / 2 ^ k)

-- the amount of a shift, which stands in the lowest five bits
abbrev pub amount : ℕ → ℕ
amount n = n % 2 ^ 5

-- What an operation on two registers writes. DIV and REM round towards zero. Of -2 ^ 31 by -1 the quotient is 2 ^ 31,
-- whose lowest 32 bits are those of -2 ^ 31.
abbrev pub register_result : RegOp → ℕ → ℕ → ℕ
register_result Add a b = (a + b) % 2 ^ 32
register_result Sub a b = low_32_bits (pos a -ℤ pos b)
register_result Sll a b = a * 2 ^ amount b % 2 ^ 32
register_result Slt a b = if int_lt (signed a) (signed b) then 1 else 0
register_result Sltu a b = if nat_lt a b then 1 else 0
register_result Xor a b = bit_xor a b
register_result Srl a b = a / 2 ^ amount b
register_result Sra a b = low_32_bits (shifted_right (signed a) (amount b))
register_result Or a b = bit_or a b
register_result And a b = bit_and a b
register_result Mul a b = a * b % 2 ^ 32
register_result Mulh a b = low_32_bits (shifted_right (signed a *ℤ signed b) 32)
register_result Mulhsu a b = low_32_bits (shifted_right (signed a *ℤ pos b) 32)
register_result Mulhu a b = a * b / 2 ^ 32
register_result Div a b = if nat_eq b 0 then 2 ^ 32 - 1 else low_32_bits (int_div (signed a) (signed b))
register_result Divu a b = if nat_eq b 0 then 2 ^ 32 - 1 else a / b
register_result Rem a b = if nat_eq b 0 then a else low_32_bits (int_rem (signed a) (signed b))
register_result Remu a b = if nat_eq b 0 then a else a % b

-- an operation on a register and an immediate is this one on two registers
abbrev pub operation : ImmOp → RegOp
operation Addi = Add
operation Slti = Slt
operation Sltiu = Sltu
operation Xori = Xor
operation Ori = Or
operation Andi = And
operation Slli = Sll
operation Srli = Srl
operation Srai = Sra

-- what it writes; the immediate's 32 bits are extended by its sign
abbrev pub immediate_result : ImmOp → ℕ → ℤ → ℕ
immediate_result op a imm = register_result (operation op) a (low_32_bits imm)

-- whether a branch is taken
abbrev pub is_taken : Test → ℕ → ℕ → Bool
is_taken Eq a b = nat_eq a b
is_taken Ne a b = not (nat_eq a b)
is_taken Lt a b = int_lt (signed a) (signed b)
is_taken Ge a b = not (int_lt (signed a) (signed b))
is_taken Ltu a b = nat_lt a b
is_taken Geu a b = not (nat_lt a b)

-- an address and a signed offset
abbrev pub add_offset : ℕ → ℤ → ℕ
add_offset at offset = low_32_bits (pos at +ℤ offset)
