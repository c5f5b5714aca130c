-- Every call is lawful, since each row of the table is.
use Rattle.std.proofs.Common.{◌≡◌, ℕ, Bool, true, false, cond, List, [], ◌∷◌, refl, sym, ◌∙◌}
use Rattle.std.specs.Prelude.{◌==◌}
use Rattle.std.proofs.lemmas.Bool.{eqb-true}
use Rattle.guest_kernel.specs.Errors.{enosys, enotty}
use Rattle.guest_calls.specs.Laws.{EverySyscallIsLawful}
use Rattle.guest_calls.specs.Lawful.{IsLawful}
use Rattle.guest_calls.specs.Results.{Syscall, SyscallResult, number}
use Rattle.guest_calls.specs.Table.{syscall, syscall_numbered, table}
use Rattle.guest_calls.proofs.ClockCalls.{clock_gettime_is_lawful, clock_nanosleep_is_lawful}
use Rattle.guest_calls.proofs.CloneCall.{clone_is_lawful}
use Rattle.guest_calls.proofs.FileCalls.{close_is_lawful, llseek_is_lawful, openat_is_lawful, read_is_lawful, write_is_lawful}
use Rattle.guest_calls.proofs.FutexCall.{futex_is_lawful}
use Rattle.guest_calls.proofs.Lawful.{lawful_returns}
use Rattle.guest_calls.proofs.PageCalls.{brk_is_lawful, mmap2_is_lawful, mprotect_is_lawful, munmap_is_lawful}
use Rattle.guest_calls.proofs.ThreadCalls.{exit_group_is_lawful, exit_is_lawful, rt_sigprocmask_is_lawful, sched_yield_is_lawful, set_tid_address_is_lawful}
use Rattle.guest_calls.proofs.VectorCalls.{readv_is_lawful, writev_is_lawful}

-- the call of each row is lawful where it is made by its number
abbrev AreLawful : List (ℕ × (Syscall → SyscallResult)) → Type 0
AreLawful [] = Unit {0}
AreLawful (row ∷ rows) = ((c : Syscall) → number c ≡ row.0 → IsLawful c (row.1 c)) × AreLawful rows

infixr 4 ◌and◌
◌and◌ : {P Q : Type 0} → P → Q → P × Q
first and others = (first, others)

-- Each call of the table, in its order.
each_is_lawful : AreLawful table
unfolding table
each_is_lawful =
    (λ c is. lawful_returns c enotty)
    and (λ c is. openat_is_lawful c)
    and (λ c is. close_is_lawful c)
    and (λ c is. llseek_is_lawful c)
    and read_is_lawful
    and write_is_lawful
    and readv_is_lawful
    and writev_is_lawful
    and (λ c is. exit_is_lawful c)
    and (λ c is. exit_group_is_lawful c)
    and (λ c is. set_tid_address_is_lawful c)
    and (λ c is. lawful_returns c 0)
    and (λ c is. sched_yield_is_lawful c)
    and (λ c is. lawful_returns c 0)
    and (λ c is. rt_sigprocmask_is_lawful c)
    and (λ c is. lawful_returns c 1)
    and (λ c is. lawful_returns c c.tid)
    and (λ c is. brk_is_lawful c)
    and (λ c is. munmap_is_lawful c)
    and (λ c is. clone_is_lawful c)
    and (λ c is. mmap2_is_lawful c)
    and (λ c is. mprotect_is_lawful c)
    and (λ c is. lawful_returns c 0)
    and (λ c is. clock_gettime_is_lawful c)
    and (λ c is. clock_nanosleep_is_lawful c)
    and (λ c is. futex_is_lawful c)
    and tt

by_test : (c : Syscall) (m n : ℕ) (b : Bool) (one other : Syscall → SyscallResult) → (m == n) ≡ b → number c ≡ n →
    (number c ≡ m → IsLawful c (one c)) → IsLawful c (other c) → IsLawful c (cond b one other c)
by_test c m n true one other same is here there = here (is ∙ sym (eqb-true m n same))
by_test c m n false one other same is here there = there

numbered_is_lawful : (c : Syscall) (n : ℕ) (rows : List (ℕ × (Syscall → SyscallResult))) →
    number c ≡ n → AreLawful rows → IsLawful c (syscall_numbered n rows c)
numbered_is_lawful c n [] is each = lawful_returns c enosys
numbered_is_lawful c n (row ∷ rows) is each =
    by_test c row.0 n (row.0 == n) row.1 (syscall_numbered n rows) refl is (each.0 c) (numbered_is_lawful c n rows is each.1)

pub every_syscall_is_lawful : EverySyscallIsLawful
unfolding syscall
every_syscall_is_lawful c = numbered_is_lawful c (number c) table refl each_is_lawful
