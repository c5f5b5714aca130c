-- What loads, stores and atomic operations do with bytes: the RISC-V Instruction Set Manual, Volume I, section "Load and
-- Store Instructions" of chapter "RV32I Base Integer Instruction Set", and chapter "A" Extension for Atomic Instructions.
use Rattle.std.specs.Prelude.{ℕ, ◌+◌, ◌%◌, ◌^◌, Bool, List, take, int_lt, nat_lt, bit_and, bit_or, bit_xor, is_none, if◌then◌else◌}
use Rattle.std.specs.Int.{w32, to_le_bytes}
use Rattle.rv_isa.specs.declared.instruction.LoadKind.{LoadKind}
use Rattle.rv_isa.specs.declared.instruction.LoadKind.TheVariants.{Lb, Lh, Lw, Lbu, Lhu}
use Rattle.rv_isa.specs.declared.instruction.StoreKind.{StoreKind}
use Rattle.rv_isa.specs.declared.instruction.StoreKind.TheVariants.{Sb, Sh, Sw}
use Rattle.rv_isa.specs.declared.instruction.AtomicOp.{AtomicOp}
use Rattle.rv_isa.specs.declared.instruction.AtomicOp.TheVariants.{Lr, Sc, Swap, Add, Xor, And, Or, Min, Max, Minu, Maxu}
use Rattle.guest_memory.specs.declared.size.Size.{Size}
use Rattle.guest_memory.specs.declared.size.Size.TheVariants.{One, Two, Four}
use Rattle.guest_memory.specs.declared.refusal.Permission.TheVariants as permission
use Rattle.guest_memory.specs.Memory.{Memory, byte_count, first_refusal}
use Rattle.rv_isa.specs.Fields.{twos_complement}
use Rattle.rv_exec.specs.Operations.{low_32_bits, signed}

-- whether each of `n` bytes can be read
abbrev pub can_read : Memory → ℕ → ℕ → Bool
can_read m at n = is_none (first_refusal m permission.Read at n)

-- whether each of them can be written
abbrev pub can_write : Memory → ℕ → ℕ → Bool
can_write m at n = is_none (first_refusal m permission.Write at n)

-- how many bytes a load reads
abbrev pub load_size : LoadKind → Size
load_size Lb = One
load_size Lh = Two
load_size Lw = Four
load_size Lbu = One
load_size Lhu = Two

-- what a load writes: LB and LH extend the sign, LBU and LHU extend with zeros
abbrev pub extended : LoadKind → ℕ → ℕ
extended Lb n = low_32_bits (twos_complement (2 ^ 7) (n % 2 ^ 8))
extended Lh n = low_32_bits (twos_complement (2 ^ 15) (n % 2 ^ 16))
extended Lw n = n
extended Lbu n = n
extended Lhu n = n

-- how many bytes a store writes
abbrev pub store_size : StoreKind → Size
store_size Sb = One
store_size Sh = Two
store_size Sw = Four

-- the lowest bytes of a register, the lowest first
abbrev pub low_bytes : Size → ℕ → List ℕ
low_bytes size n = take (byte_count size) (to_le_bytes w32 n)

-- What an atomic operation leaves in the word that held `old`, by the register's value `n`. LR only reads the word.
abbrev pub atomic_result : AtomicOp → ℕ → ℕ → ℕ
atomic_result Lr old n = old
atomic_result Sc old n = n
atomic_result Swap old n = n
atomic_result Add old n = (old + n) % 2 ^ 32
atomic_result Xor old n = bit_xor old n
atomic_result And old n = bit_and old n
atomic_result Or old n = bit_or old n
atomic_result Min old n = if int_lt (signed old) (signed n) then old else n
atomic_result Max old n = if int_lt (signed old) (signed n) then n else old
atomic_result Minu old n = if nat_lt old n then old else n
atomic_result Maxu old n = if nat_lt old n then n else old
