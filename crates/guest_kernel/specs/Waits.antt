-- Threads that wait, at a word or for a time, and those that are woken.
use Rattle.std.specs.Prelude.{ℕ, not, List, filter, Option, Some, None}
use Rattle.futex_table.specs.declared.waiter.Waiter.{Waiter}
use Rattle.futex_table.specs.Once.{waits}
use Rattle.futex_table.specs.Waiting.{all_bits, after_wait, woken, after_wake, after_shift}
use Rattle.virtual_clock.specs.declared.deadline.Deadline.{Deadline}
use Rattle.virtual_clock.specs.Steps.{after_set}
use Rattle.guest_kernel.specs.Kernel.{KernelState, unblocked}

-- the thread wakes at the time, with the answer
abbrev pub with_deadline : ℕ → ℕ → ℕ → KernelState → KernelState
with_deadline tid at answer k = record k { deadlines = after_set k.deadlines tid at answer }

-- the thread is behind all others that wait, with these bits
abbrev pub with_waiter : ℕ → ℕ → ℕ → KernelState → KernelState
with_waiter at tid bits k = record k { waiting = after_wait k.waiting at tid bits }

-- this one waits no more
abbrev pub woken_one : Option Waiter → KernelState → KernelState
woken_one None k = k
woken_one (Some w) k = unblocked w.tid k

-- the deadlines of all others than these
abbrev pub deadlines_without : List Deadline → List Waiter → List Deadline
deadlines_without deadlines gone = filter (λ d. not (waits gone d.tid)) deadlines

-- the first `most` that wait at the address and meet the bits are woken, and have no deadline any more
abbrev pub woken_at : ℕ → ℕ → ℕ → KernelState → KernelState
woken_at at most bits k = record k {
  waiting = after_wake k.waiting at most bits;
  deadlines = deadlines_without k.deadlines (woken k.waiting at most bits);
}

-- the first `most` that wait at the address are moved to the other, and keep their deadlines
abbrev pub moved_at : ℕ → ℕ → ℕ → KernelState → KernelState
moved_at at most to k = record k { waiting = after_shift k.waiting at most to }

-- the first are woken, and the next are moved to the other address
abbrev pub requeued : ℕ → ℕ → ℕ → ℕ → KernelState → KernelState
requeued at most shift to k = moved_at at shift to (woken_at at most all_bits k)
