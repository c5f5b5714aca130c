-- What holds of every instruction, state and thread.
use Rattle.std.specs.Prelude.{◌≡◌, ◌↔◌, ℕ, ◌+◌, ◌%◌, ◌^◌, ◌<◌, ◌≤◌, true, is_some}
use Rattle.rv_isa.specs.declared.instruction.Instr.{Instr}
use Rattle.rv_isa.specs.declared.instruction.Instr.TheVariants.{Ecall}
use Rattle.rv_exec.specs.declared.outcome.Access.{Access}
use Rattle.rv_exec.specs.declared.outcome.Access.TheVariants as access
use Rattle.rv_exec.specs.declared.outcome.Outcome.{Outcome}
use Rattle.rv_exec.specs.declared.outcome.Outcome.TheVariants.{Went, Syscall, Fault}
use Rattle.rv_exec.specs.Effects.{ExecState, effect}

-- where the instruction did not go on, all is as it was
abbrev pub KeepsUnlessWent : Outcome → ExecState → ExecState → Type 0
KeepsUnlessWent (Went access) old new = Unit {0}
KeepsUnlessWent Syscall old new = new ≡ old
KeepsUnlessWent (Fault kind) old new = new ≡ old

-- faults and system calls change nothing
abbrev pub RefusalsChangeNothing : Type 0
RefusalsChangeNothing = (tid : ℕ) (i : Instr) (c : ExecState) → KeepsUnlessWent (effect tid i c).0 c (effect tid i c).1

-- the kernel is called by ECALL alone
abbrev pub OnlyEcallCalls : Type 0
OnlyEcallCalls = (tid : ℕ) (i : Instr) (c : ExecState) → ((effect tid i c).0 ≡ Syscall) ↔ (i ≡ Ecall)

-- what another thread has reserved afterwards, it had reserved before
abbrev pub OthersGainNothing : Type 0
OthersGainNothing =
    (tid : ℕ) (i : Instr) (c : ExecState) (other : ℕ) → ¬ (other ≡ tid) → is_some ((effect tid i c).1.held other) ≡ true
    → (effect tid i c).1.held other ≡ c.held other

-- the rights of all pages are as they were
abbrev pub KeepsRights : Type 0
KeepsRights = (tid : ℕ) (i : Instr) (c : ExecState) → (effect tid i c).1.memory.rights ≡ c.memory.rights

-- the pc stays a multiple of 4
abbrev pub KeepsAlignment : Type 0
KeepsAlignment = (tid : ℕ) (i : Instr) (c : ExecState) → c.registers.pc % 4 ≡ 0 → (effect tid i c).1.registers.pc % 4 ≡ 0

-- one word or two, among the 2 ^ 30 words of memory
abbrev pub AreFewWords : ℕ → ℕ → Type 0
AreFewWords first count = (1 ≤ count) × (count ≤ 2) × (first + count ≤ 2 ^ 30)

-- the words that are accessed are such
abbrev pub IsInMemory : Access → Type 0
IsInMemory access.Nothing = Unit {0}
IsInMemory (access.Read first count) = AreFewWords first count
IsInMemory (access.Write first count) = AreFewWords first count
IsInMemory (access.Both word) = word < 2 ^ 30

-- so are those of an instruction that went on; any other accessed none
abbrev pub AccessesMemory : Outcome → Type 0
AccessesMemory (Went accessed) = IsInMemory accessed
AccessesMemory Syscall = Unit {0}
AccessesMemory (Fault kind) = Unit {0}

-- an instruction accesses one word or two of memory, or none
abbrev pub AccessesFewWords : Type 0
AccessesFewWords = (tid : ℕ) (i : Instr) (c : ExecState) → AccessesMemory (effect tid i c).0
