-- The table of the kernel's calls, by their numbers on riscv32. Each is modelled on its Linux manual page.
use Rattle.std.specs.Prelude.{ℕ, ◌==◌, List, [], ◌∷◌, if◌then◌else◌}
use Rattle.guest_kernel.specs.Errors.{enotty, enosys}
use Rattle.guest_calls.specs.Results.{Syscall, SyscallResult, number, returns}
use Rattle.guest_calls.specs.Files.{openat, close, llseek, read, write}
use Rattle.guest_calls.specs.Vectors.{readv, writev}
use Rattle.guest_calls.specs.Pages.{brk, munmap, mmap2, mprotect}
use Rattle.guest_calls.specs.Threads.{exit, exit_group, set_tid_address, sched_yield, rt_sigprocmask}
use Rattle.guest_calls.specs.Clock.{clock_gettime, clock_nanosleep}
use Rattle.guest_calls.specs.Clone.{clone}
use Rattle.guest_calls.specs.Futex.{futex}

-- the call does nothing, and this is answered
abbrev pub always : ℕ → Syscall → SyscallResult
always value c = returns c value

-- ioctl(2): nothing is a terminal
abbrev pub ioctl : Syscall → SyscallResult
ioctl = always enotty

-- these change nothing that the guest can see
abbrev pub set_robust_list : Syscall → SyscallResult
set_robust_list = always 0

abbrev pub rt_sigaction : Syscall → SyscallResult
rt_sigaction = always 0

abbrev pub madvise : Syscall → SyscallResult
madvise = always 0

-- getpid(2): the process has the number of its first thread
abbrev pub getpid : Syscall → SyscallResult
getpid = always 1

abbrev pub gettid : Syscall → SyscallResult
gettid c = returns c c.tid

unfoldable pub table : List (ℕ × (Syscall → SyscallResult))
table =
    (29, ioctl)
    ∷ (56, openat)
    ∷ (57, close)
    ∷ (62, llseek)
    ∷ (63, read)
    ∷ (64, write)
    ∷ (65, readv)
    ∷ (66, writev)
    ∷ (93, exit)
    ∷ (94, exit_group)
    ∷ (96, set_tid_address)
    ∷ (99, set_robust_list)
    ∷ (124, sched_yield)
    ∷ (134, rt_sigaction)
    ∷ (135, rt_sigprocmask)
    ∷ (172, getpid)
    ∷ (178, gettid)
    ∷ (214, brk)
    ∷ (215, munmap)
    ∷ (220, clone)
    ∷ (222, mmap2)
    ∷ (226, mprotect)
    ∷ (233, madvise)
    ∷ (403, clock_gettime)
    ∷ (407, clock_nanosleep)
    ∷ (422, futex)
    ∷ []

-- the call of that number; any other is unknown
abbrev pub syscall_numbered : ℕ → List (ℕ × (Syscall → SyscallResult)) → Syscall → SyscallResult
syscall_numbered n [] = always enosys
syscall_numbered n (row ∷ rows) = if row.0 == n then row.1 else syscall_numbered n rows

-- what a system call answers and does
unfoldable pub syscall : Syscall → SyscallResult
syscall c = syscall_numbered (number c) table c
