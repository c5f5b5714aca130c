-- Threads that the clock wakes.
use Rattle.std.specs.Prelude.{◌≡◌, ◌⊎◌, ℕ, ◌<◌, Bool, true, not, max, if◌then◌else◌, [], All, Option, Some, None}
use Rattle.std.specs.List.{list_any}
use Rattle.virtual_clock.specs.declared.deadline.Deadline.{Deadline}
use Rattle.virtual_clock.specs.Order.{due_of, first_of}
use Rattle.guest_kernel.specs.Kernel.{KernelState, is_blocked, unblocked}

-- one of the live threads can run
abbrev pub some_can_run : KernelState → Bool
some_can_run k = list_any (λ t. not (is_blocked k t.tid)) k.threads

-- the time of the deadline, or the present one where that is later or there is no deadline
abbrev pub no_sooner : ℕ → Option Deadline → ℕ
no_sooner now None = now
no_sooner now (Some d) = max now d.at

-- Where no thread can run, the time goes on to the earliest deadline, if it is ahead.
abbrev pub moved_on : KernelState → KernelState
moved_on k = if some_can_run k then k else record k { time = no_sooner k.time (first_of k.deadlines) }

-- the deadline that is due then: the first by time and then by thread
abbrev pub next_due : KernelState → Option Deadline
next_due k = due_of k.deadlines (moved_on k).time

-- its thread goes on: the deadline goes, and with it the thread's place among those that wait
abbrev pub woken_by : Option Deadline → KernelState → KernelState
woken_by None k = k
woken_by (Some d) k = unblocked d.tid k

-- one thread is woken, where one is due
abbrev pub woken_by_time : KernelState → KernelState
woken_by_time k = woken_by (next_due k) (moved_on k)

-- No deadline is due, and a thread can run or no deadline is left.
pub record IsAwake (k : KernelState) : Type 0 where
  pub none_due : All (λ d. k.time < d.at) k.deadlines
  pub able : (some_can_run k ≡ true) ⊎ (k.deadlines ≡ [])
