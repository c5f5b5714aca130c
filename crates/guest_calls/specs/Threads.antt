-- The calls on threads and the process: exit(2), exit_group(2), set_tid_address(2), sched_yield(2), rt_sigprocmask(2).
use Rattle.std.specs.Prelude.{ℕ, ◌%◌, ◌^◌, Bool, not, ◌&&◌, ◌==◌, List, [], map, replicate, if◌then◌else◌}
use Rattle.guest_memory.specs.Reserved.{nothing_reserved}
use Rattle.futex_table.specs.Waiting.{all_bits}
use Rattle.guest_kernel.specs.declared.answer.Answer.TheVariants.{Yield, ThreadEnd, ProcessEnd}
use Rattle.guest_kernel.specs.Errors.{efault}
use Rattle.guest_calls.specs.Futex.{wakes}
use Rattle.guest_kernel.specs.Kernel.{has_others, other_threads}
use Rattle.guest_calls.specs.Results.{Syscall, SyscallResult, arg, returns, unless, ◌⇒◌, ◌▷◌, when, answers, changes, fills, fills_word, forgets, writable}
use Rattle.guest_kernel.specs.Threads.{clear_tid_of, with_clear_tid}

-- ---- ends
-- the exit status
abbrev pub status : Syscall → ℕ
status c = arg c 0 % 2 ^ 8

abbrev pub clear_tid : Syscall → ℕ
clear_tid c = clear_tid_of c.kernel c.tid

-- another thread lives that may wait for this one's end, and the address is set and can be written
abbrev pub is_cleared : Syscall → Bool
is_cleared c = has_others c.kernel c.tid && (not (clear_tid c == 0) && writable c (clear_tid c) 4)

-- the thread is removed, and its reservation dropped
abbrev pub leaves : ℕ → SyscallResult → SyscallResult
leaves tid r = r ▷ changes (λ k. record k { threads = other_threads k tid }) ▷ forgets tid

-- its end is told to those who wait for it
abbrev pub told_end : Syscall → SyscallResult
told_end c = returns c 0 ▷ when (is_cleared c) (λ r. r ▷ fills_word (clear_tid c) 0 ▷ wakes (clear_tid c) 1 all_bits)

abbrev pub exit : Syscall → SyscallResult
exit c =
    told_end c
    ▷ leaves c.tid
    ▷ answers (if has_others c.kernel c.tid then ThreadEnd else ProcessEnd (status c))

-- no thread lives any more, and all reservations go
abbrev pub ends_all : SyscallResult → SyscallResult
ends_all r = record r {
  kernel = record r.kernel { threads = []; waiting = []; deadlines = [] };
  guest = record r.guest { held = nothing_reserved };
}

abbrev pub exit_group : Syscall → SyscallResult
exit_group c = returns c 0 ▷ ends_all ▷ answers (ProcessEnd (status c))

abbrev pub set_tid_address : Syscall → SyscallResult
set_tid_address c =
    returns c c.tid ▷ changes (λ k. record k { threads = map (with_clear_tid c.tid (arg c 0)) k.threads })

abbrev pub sched_yield : Syscall → SyscallResult
sched_yield c = returns c 0 ▷ answers Yield

abbrev pub rt_sigprocmask_tests : Syscall → List (Bool × ℕ)
rt_sigprocmask_tests c = not (arg c 2 == 0) && not (writable c (arg c 2) 8) ⇒ efault

-- no signal is ever blocked: the old set is empty
abbrev pub rt_sigprocmask_effect : Syscall → SyscallResult
rt_sigprocmask_effect c = returns c 0 ▷ when (not (arg c 2 == 0)) (fills (arg c 2) (replicate 8 0))

abbrev pub rt_sigprocmask : Syscall → SyscallResult
rt_sigprocmask c = unless c (rt_sigprocmask_tests c) λ _. rt_sigprocmask_effect c
