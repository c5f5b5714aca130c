-- The fields of a 32-bit instruction word: the RISC-V Instruction Set Manual, Volume I, chapter
-- "RV32I Base Integer Instruction Set", sections "Base Instruction Formats" and "Immediate Encoding Variants".
use Rattle.std.specs.Prelude.{ℕ, ◌+◌, ◌-◌, ◌*◌, ◌/◌, ◌%◌, ◌^◌, ℤ, pos, ◌-ℤ◌, nat_lt, if◌then◌else◌}

-- inst[high:low], the bits of a word from `high` down to `low`
abbrev pub bits : ℕ → ℕ → ℕ → ℕ
bits inst high low = inst / 2 ^ low % 2 ^ (high - low + 1)

-- the fields of the formats, under the manual's names
abbrev pub opcode : ℕ → ℕ
opcode inst = bits inst 6 0

abbrev pub rd : ℕ → ℕ
rd inst = bits inst 11 7

abbrev pub funct3 : ℕ → ℕ
funct3 inst = bits inst 14 12

abbrev pub rs1 : ℕ → ℕ
rs1 inst = bits inst 19 15

abbrev pub rs2 : ℕ → ℕ
rs2 inst = bits inst 24 20

abbrev pub funct7 : ℕ → ℕ
funct7 inst = bits inst 31 25

-- the bits aq and rl of an atomic operation
abbrev pub order : ℕ → ℕ
order inst = bits inst 26 25

-- the upper five bits of funct7, which name an atomic operation
abbrev pub funct5 : ℕ → ℕ
funct5 inst = bits inst 31 27

-- what the bits of `n` stand for where the topmost of them, which weighs `sign`, counts as less than 0
abbrev pub twos_complement : ℕ → ℕ → ℤ
twos_complement sign n = if nat_lt n sign then pos n else pos n -ℤ pos (2 * sign)

-- imm[11:0] is inst[31:20]
abbrev pub immediate_i : ℕ → ℤ
immediate_i inst = twos_complement (2 ^ 11) (bits inst 31 20)

-- imm[11:5] is inst[31:25], imm[4:0] is inst[11:7]
abbrev pub immediate_s : ℕ → ℤ
immediate_s inst = twos_complement (2 ^ 11) (bits inst 31 25 * 2 ^ 5 + bits inst 11 7)

-- imm[12] is inst[31], imm[11] is inst[7], imm[10:5] is inst[30:25], imm[4:1] is inst[11:8], and imm[0] is 0
abbrev pub immediate_b : ℕ → ℤ
immediate_b inst =
    twos_complement (2 ^ 12) (bits inst 31 31 * 2 ^ 12 + bits inst 7 7 * 2 ^ 11 + bits inst 30 25 * 2 ^ 5 + bits inst 11 8 * 2 ^ 1)

-- the twenty bits inst[31:12], which the manual calls imm[31:12]
abbrev pub immediate_u : ℕ → ℕ
immediate_u inst = bits inst 31 12

-- imm[20] is inst[31], imm[19:12] is inst[19:12], imm[11] is inst[20], imm[10:1] is inst[30:21], and imm[0] is 0
abbrev pub immediate_j : ℕ → ℤ
immediate_j inst =
    twos_complement (2 ^ 20) (bits inst 31 31 * 2 ^ 20 + bits inst 19 12 * 2 ^ 12 + bits inst 20 20 * 2 ^ 11 + bits inst 30 21 * 2 ^ 1)
