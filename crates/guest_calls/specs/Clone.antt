-- A new thread: clone(2).
use Rattle.std.specs.Prelude.{ℕ, ◌+◌, ◌%◌, ◌^◌, Bool, not, ◌&&◌, ◌==◌, bit_and, List, slice_set, if◌then◌else◌}
use Rattle.guest_memory.specs.Memory.{Memory}
use Rattle.rv_exec.specs.Accesses.{can_write}
use Rattle.rv_exec.specs.Registers.{Registers}
use Rattle.guest_kernel.specs.declared.answer.Answer.TheVariants.{Born}
use Rattle.guest_kernel.specs.Errors.{eagain, efault, enosys}
use Rattle.guest_calls.specs.Results.{Syscall, SyscallResult, arg, returns, unless, ◌⇒◌, ◌or◌, ◌▷◌, answers, changes, fills_word_where, forgets, has}
use Rattle.guest_kernel.specs.Threads.{is_full, with_thread}

-- CLONE_VM 0x100, CLONE_SIGHAND 0x800 and CLONE_THREAD 0x10000: a thread of the same process, and no other child
abbrev pub needed_flags : ℕ
needed_flags = 0x10900

-- CLONE_SETTLS
abbrev pub sets_tls : ℕ
sets_tls = 0x80000

-- CLONE_PARENT_SETTID
abbrev pub sets_parent : ℕ
sets_parent = 0x100000

-- CLONE_CHILD_CLEARTID
abbrev pub clears_child : ℕ
clears_child = 0x200000

-- CLONE_CHILD_SETTID
abbrev pub sets_child : ℕ
sets_child = 0x1000000

-- These, CLONE_FS 0x200, CLONE_FILES 0x400, CLONE_SYSVSEM 0x40000 and CLONE_DETACHED 0x400000; and the low eight bits,
-- the signal at the child's end, which are not looked at.
abbrev pub known_flags : ℕ
known_flags = needed_flags + sets_tls + sets_parent + clears_child + sets_child + 0x200 + 0x400 + 0x40000 + 0x400000 + 0xFF

-- the caller's registers behind the call, with 0 in a0, the stack in x2 where it is not 0, and with a tls in x4
abbrev pub child_registers : Registers → ℕ → ℕ → ℕ → Registers
child_registers r flags stack tls =
    let regs = slice_set r.regs 10 0 in
    let regs = if stack == 0 then regs else slice_set regs 2 stack in
    let regs = if has flags sets_tls then slice_set regs 4 tls else regs in
    record { pc = (r.pc + 4) % 2 ^ 32; regs = regs }

-- a thread of the same process is asked for, and nothing unknown
abbrev pub are_flags_taken : ℕ → Bool
are_flags_taken flags = bit_and flags needed_flags == needed_flags && bit_and flags known_flags == flags

-- a word is asked for at an address where it can't be written
abbrev pub is_denied : Memory → Bool → ℕ → Bool
is_denied m asked at = asked && not (can_write m at 4)

abbrev pub clone_tests : Syscall → List (Bool × ℕ)
clone_tests c =
    not (are_flags_taken (arg c 0)) ⇒ enosys
    or is_full c.kernel ⇒ eagain
    or is_denied c.memory (has (arg c 0) sets_parent) (arg c 2) ⇒ efault
    or is_denied c.memory (has (arg c 0) sets_child) (arg c 4) ⇒ efault

-- where a zero is written when the new thread ends, or 0
abbrev pub child_clear_tid : ℕ → ℕ → ℕ
child_clear_tid flags child = if has flags clears_child then child else 0

-- the new thread has the next number, and nothing reserved
abbrev pub clone_effect : Syscall → SyscallResult
clone_effect c =
    let flags = arg c 0 in
    let parent = arg c 2 in
    let child = arg c 4 in
    let tid = c.kernel.last_tid + 1 in
    returns c tid
    ▷ fills_word_where (has flags sets_parent) parent tid
    ▷ fills_word_where (has flags sets_child) child tid
    ▷ changes (with_thread tid (child_clear_tid flags child))
    ▷ forgets tid
    ▷ answers (Born tid (child_registers c.registers flags (arg c 1) (arg c 3)))

abbrev pub clone : Syscall → SyscallResult
clone c = unless c (clone_tests c) λ _. clone_effect c
