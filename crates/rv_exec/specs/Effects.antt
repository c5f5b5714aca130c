-- What one instruction does, by the RISC-V Instruction Set Manual, Volume I: an answer, and the registers, memory and
-- reservations afterwards. A fault and a system call change nothing.
use Rattle.std.specs.Prelude.{ℕ, ◌+◌, ◌*◌, ◌/◌, ◌%◌, ◌^◌, List, Bool, true, false, ◌&&◌, nat_eq, slice_index, slice_set, Some, if◌then◌else◌}
use Rattle.rv_isa.specs.declared.instruction.LoadKind.{LoadKind}
use Rattle.rv_isa.specs.declared.instruction.StoreKind.{StoreKind}
use Rattle.rv_isa.specs.declared.instruction.AtomicOp.{AtomicOp}
use Rattle.rv_isa.specs.declared.instruction.AtomicOp.TheVariants.{Lr, Sc}
use Rattle.rv_isa.specs.declared.instruction.Instr.{Instr}
use Rattle.rv_isa.specs.declared.instruction.Instr.TheVariants.{Lui, Auipc, Jal, Jalr, Branch, Load, Store, Immediate, Register, Atomic, Fence, FenceI, Ecall, Ebreak}
use Rattle.guest_words.specs.declared.endings.FaultKind.{FaultKind}
use Rattle.guest_words.specs.declared.endings.FaultKind.TheVariants as fault
use Rattle.guest_words.specs.Words.{word_count}
use Rattle.guest_memory.specs.declared.size.Size.{Size}
use Rattle.guest_memory.specs.declared.size.Size.TheVariants.{Four}
use Rattle.guest_memory.specs.declared.memory.GuestMemory.{GuestMemory}
use Rattle.guest_memory.specs.declared.reservations.Reservations.{Reservations}
use Rattle.guest_memory.specs.Guest.{memory_of}
use Rattle.guest_memory.specs.ReservedBy.{reserved_by}
use Rattle.guest_memory.specs.Memory.{Memory, byte_count, number_at, with_bytes}
use Rattle.guest_memory.specs.Reserved.{Reserved, with_word, without_thread, holds, after_write}
use Rattle.rv_exec.specs.Registers.{Registers}
use Rattle.rv_exec.specs.Operations.{register_result, immediate_result, is_taken, add_offset}
use Rattle.rv_exec.specs.Accesses.{can_read, can_write, load_size, extended, store_size, low_bytes, atomic_result}
use Rattle.rv_exec.specs.declared.outcome.Access.TheVariants as access
use Rattle.rv_exec.specs.declared.outcome.Outcome.{Outcome}
use Rattle.rv_exec.specs.declared.outcome.Outcome.TheVariants.{Went, Syscall, Fault}

-- what a thread's instruction works on
pub record ExecState : Type 0 where
  pub registers : Registers
  pub memory : Memory
  pub held : Reserved

-- what registers, memory and reservations of the code mean
abbrev pub exec_state_of : Registers → GuestMemory → Reservations → ExecState
exec_state_of r memory held = record { registers = r; memory = memory_of memory; held = reserved_by held }

-- ---- registers
-- what a register holds
abbrev pub value : Registers → ℕ → ℕ
value r n = slice_index r.regs n

-- the registers after a write to one of them; a write to x0 is lost
abbrev pub written : Registers → ℕ → ℕ → List ℕ
written r rd n = if nat_eq rd 0 then r.regs else slice_set r.regs rd n

-- the address behind the instruction
abbrev pub next : Registers → ℕ
next r = (r.pc + 4) % 2 ^ 32

-- the thread goes on behind the instruction
abbrev pub advanced : Registers → Registers
advanced r = record r { pc = next r }

-- rd gets the number, and the thread goes on behind the instruction
abbrev pub put : ℕ → ℕ → Registers → Registers
put rd n r = record { pc = next r; regs = written r rd n }

-- ---- tests
-- What follows a test that has to hold; else the fault, and nothing changes. What follows is a function, so that it is
-- computed only where the test holds.
abbrev pub checked : {S : Type 0} → Bool → FaultKind → S → (Unit {0} → Outcome × S) → Outcome × S
checked true kind s rest = rest tt
checked false kind s rest = (Fault kind, s)

-- ---- instructions that touch registers alone
-- nothing but the next instruction
abbrev pub passed : Registers → Outcome × Registers
passed r = (Went access.Nothing, advanced r)

-- rd gets what was computed
abbrev pub computed : ℕ → ℕ → Registers → Outcome × Registers
computed rd n r = (Went access.Nothing, put rd n r)

-- a jump to a target, which has to be a multiple of 4, with these registers
abbrev pub jumped : ℕ → List ℕ → Registers → Outcome × Registers
jumped target regs r =
    checked (nat_eq (target % 4) 0) fault.JumpAlign r
    λ _. (Went access.Nothing, record { pc = target; regs = regs })

-- a jump that leaves the address behind it in rd
abbrev pub linked : ℕ → ℕ → Registers → Outcome × Registers
linked rd target r = jumped target (written r rd (next r)) r

-- a jump where the test holds; else the thread goes on behind the branch
abbrev pub branched : Bool → ℕ → Registers → Outcome × Registers
branched true target r = jumped target r.regs r
branched false target r = passed r

-- ---- loads and stores
-- rd gets the bytes' number, extended
abbrev pub loads : LoadKind → ℕ → ℕ → Memory → Registers → Outcome × Registers
loads kind rd at m r =
    let n = byte_count (load_size kind) in
    checked (can_read m at n) fault.Load r
    λ _. (Went (access.Read (at / 4) (word_count at n)), put rd (extended kind (number_at m at n)) r)

-- the bytes are written, which drops the reservations of the other threads on their words
abbrev pub with_stored : ℕ → Size → ℕ → ℕ → ExecState → ExecState
with_stored tid size at n c = record {
  registers = c.registers;
  memory = with_bytes c.memory at (low_bytes size n);
  held = after_write c.held (Some tid) (at / 4) (word_count at (byte_count size));
}

-- these registers, and memory and reservations as they are
abbrev pub with_registers : Registers → ExecState → ExecState
with_registers r c = record c { registers = r }

-- the register's lowest bytes are stored
abbrev pub stores : ℕ → StoreKind → ℕ → ℕ → ExecState → Outcome × ExecState
stores tid kind at n c =
    let size = store_size kind in
    checked (can_write c.memory at (byte_count size)) fault.Store c
    λ _. (
      Went (access.Write (at / 4) (word_count at (byte_count size))),
      with_stored tid size at n (with_registers (advanced c.registers) c),
    )

-- ---- atomic operations
-- rd gets the word, which is reserved for the thread
abbrev pub load_reserved : ℕ → ℕ → ℕ → ExecState → Outcome × ExecState
load_reserved tid rd at c =
    checked (can_read c.memory at 4) fault.Load c
    λ _. (
      Went (access.Read (at / 4) 1),
      record c { registers = put rd (number_at c.memory at 4) c.registers; held = with_word c.held tid (at / 4) },
    )

-- where the thread's reservation is the word, it is stored and rd gets 0; else rd gets 1
abbrev pub store_where : Bool → ℕ → ℕ → ℕ → ℕ → ExecState → Outcome × ExecState
store_where true tid rd at n c =
    (Went (access.Write (at / 4) 1), with_stored tid Four at n (with_registers (put rd 0 c.registers) c))
store_where false tid rd at n c = (Went access.Nothing, with_registers (put rd 1 c.registers) c)

-- the reservation is tested where the word can be written, and the thread has none afterwards
abbrev pub store_conditional : ℕ → ℕ → ℕ → ℕ → ExecState → Outcome × ExecState
store_conditional tid rd at n c =
    checked (can_write c.memory at 4) fault.Store c
    λ _. store_where (holds c.held tid (at / 4)) tid rd at n (record c { held = without_thread c.held tid })

-- rd gets the old word, and the word becomes the operation's result
abbrev pub modified : ℕ → AtomicOp → ℕ → ℕ → ℕ → ExecState → Outcome × ExecState
modified tid op rd at n c =
    checked (can_read c.memory at 4 && can_write c.memory at 4) fault.Store c
    λ _. let old = number_at c.memory at 4 in (
      Went (access.Both (at / 4)),
      with_stored tid Four at (atomic_result op old n) (with_registers (put rd old c.registers) c),
    )

-- each of them
abbrev pub atomic_at : ℕ → AtomicOp → ℕ → ℕ → ℕ → ExecState → Outcome × ExecState
atomic_at tid Lr rd at n c = load_reserved tid rd at c
atomic_at tid Sc rd at n c = store_conditional tid rd at n c
atomic_at tid op rd at n c = modified tid op rd at n c

-- at an address that has to be a multiple of 4
abbrev pub atomic : ℕ → AtomicOp → ℕ → ℕ → ℕ → ExecState → Outcome × ExecState
atomic tid op rd at n c = checked (nat_eq (at % 4) 0) fault.AtomicAlign c λ _. atomic_at tid op rd at n c

-- ---- the table
-- what a register of the thread holds
abbrev pub x : ExecState → ℕ → ℕ
x c n = value c.registers n

-- an effect on registers alone
abbrev pub on_registers : ExecState → Outcome × Registers → Outcome × ExecState
on_registers c e = (e.0, with_registers e.1 c)

-- what an instruction of a thread does
abbrev pub effect : ℕ → Instr → ExecState → Outcome × ExecState
effect tid (Lui rd imm) c = on_registers c (computed rd (imm * 2 ^ 12 % 2 ^ 32) c.registers)
effect tid (Auipc rd imm) c = on_registers c (computed rd ((c.registers.pc + imm * 2 ^ 12) % 2 ^ 32) c.registers)
effect tid (Jal rd offset) c = on_registers c (linked rd (add_offset c.registers.pc offset) c.registers)
effect tid (Jalr rd base offset) c = on_registers c (linked rd (add_offset (x c base) offset / 2 * 2) c.registers)
effect tid (Branch test left right offset) c =
    on_registers c (branched (is_taken test (x c left) (x c right)) (add_offset c.registers.pc offset) c.registers)
effect tid (Load kind rd base offset) c = on_registers c (loads kind rd (add_offset (x c base) offset) c.memory c.registers)
effect tid (Store kind from base offset) c = stores tid kind (add_offset (x c base) offset) (x c from) c
effect tid (Immediate op rd left imm) c = on_registers c (computed rd (immediate_result op (x c left) imm) c.registers)
effect tid (Register op rd left right) c =
    on_registers c (computed rd (register_result op (x c left) (x c right)) c.registers)
effect tid (Atomic op rd base from order) c = atomic tid op rd (x c base) (x c from) c
effect tid Fence c = on_registers c (passed c.registers)
effect tid FenceI c = on_registers c (passed c.registers)
effect tid Ecall c = (Syscall, c)
effect tid Ebreak c = (Fault fault.Break, c)
