-- The clock: clock_gettime(2) and clock_nanosleep(2), with 64-bit times. The realtime and the monotonic clock are one, which
-- begins with the guest and which each step moves on.
use Rattle.std.specs.Prelude.{ℕ, ◌+◌, ◌-◌, ◌*◌, ◌/◌, ◌%◌, ◌^◌, min, Bool, not, ◌||◌, nat_lt, nat_le, List, ◌++◌, replicate, is_none, unwrap_or, Option, Some, None, if◌then◌else◌}
use Rattle.std.specs.Int.{w32, w64, to_le_bytes}
use Rattle.guest_memory.specs.Memory.{Memory, number_at}
use Rattle.guest_kernel.specs.declared.answer.Answer.TheVariants.{Block}
use Rattle.guest_kernel.specs.Errors.{efault, einval}
use Rattle.guest_calls.specs.Results.{Syscall, SyscallResult, arg, returns, unless, ◌⇒◌, ◌or◌, ◌▷◌, either, answers, changes, fills, reads, readable, writable, has}
use Rattle.guest_kernel.specs.Waits.{with_deadline}

-- CLOCK_REALTIME 0 and CLOCK_MONOTONIC 1
abbrev pub is_clock : ℕ → Bool
is_clock clock = nat_lt clock 2

-- a time has this many bytes: the seconds, the nanoseconds, and padding
abbrev pub time_size : ℕ
time_size = 16

-- a time, in nanoseconds, as it is written: the padding is zeros
abbrev pub time_bytes : ℕ → List ℕ
time_bytes time = to_le_bytes w64 (time / 10 ^ 9) ++ to_le_bytes w32 (time % 10 ^ 9) ++ replicate 4 0

abbrev pub clock_gettime_tests : Syscall → List (Bool × ℕ)
clock_gettime_tests c = not (is_clock (arg c 0)) ⇒ einval or not (writable c (arg c 1) time_size) ⇒ efault

abbrev pub clock_gettime_effect : Syscall → SyscallResult
clock_gettime_effect c = returns c 0 ▷ fills (arg c 1) (time_bytes c.kernel.time)

abbrev pub clock_gettime : Syscall → SyscallResult
clock_gettime c = unless c (clock_gettime_tests c) λ _. clock_gettime_effect c

-- ---- times that are read
-- the greatest signed number of 64 bits: no time and no deadline is later
abbrev pub latest : ℕ
latest = 2 ^ 63 - 1

-- the seconds, low word first, and the nanoseconds; the padding is not looked at
abbrev pub seconds_at : Memory → ℕ → ℕ
seconds_at m at = number_at m at 4 + 2 ^ 32 * number_at m (at + 4) 4

abbrev pub nanoseconds_at : Memory → ℕ → ℕ
nanoseconds_at m at = number_at m (at + 8) 4

-- A time is bad where either number is negative, as signed numbers of 64 and 32 bits, or the nanoseconds are a second or more.
abbrev pub is_bad_time : ℕ → ℕ → Bool
is_bad_time seconds nanoseconds =
    nat_le (2 ^ 63) seconds || (nat_le (2 ^ 31) nanoseconds || nat_le (10 ^ 9) nanoseconds)

-- the time in nanoseconds, where it is not bad
abbrev pub time_of : ℕ → ℕ → Option ℕ
time_of seconds nanoseconds =
    if is_bad_time seconds nanoseconds then None else Some (min (seconds * 10 ^ 9 + nanoseconds) latest)

abbrev pub time_at : Memory → ℕ → Option ℕ
time_at m at = time_of (seconds_at m at) (nanoseconds_at m at)

-- so long after now
abbrev pub from_now : ℕ → ℕ → ℕ
from_now now time = min (now + time) latest

-- ---- sleeping
-- TIMER_ABSTIME: the time is no time from now on
abbrev pub timer_abstime : ℕ
timer_abstime = 1

abbrev pub clock_nanosleep_tests : Syscall → List (Bool × ℕ)
clock_nanosleep_tests c =
    not (is_clock (arg c 0)) ⇒ einval
    or not (readable c (arg c 2) time_size) ⇒ efault
    or is_none (time_at c.memory (arg c 2)) ⇒ einval

-- when the sleep is over
abbrev pub sleep_end : ℕ → ℕ → ℕ → ℕ
sleep_end flags now time = if has flags timer_abstime then time else from_now now time

-- of a call
abbrev pub nanosleep_end : Syscall → ℕ
nanosleep_end c = sleep_end (arg c 1) c.kernel.time (unwrap_or (time_at c.memory (arg c 2)) 0)

-- the thread has the end as its deadline, and then 0 as the answer
abbrev pub sleeps : Syscall → ℕ → SyscallResult → SyscallResult
sleeps c end r = r ▷ changes (with_deadline c.tid end 0) ▷ answers Block

-- the thread sleeps where the end is ahead
abbrev pub clock_nanosleep_effect : Syscall → SyscallResult
clock_nanosleep_effect c =
    let end = nanosleep_end c in
    returns c 0 ▷ reads c.tid (arg c 2) time_size ▷ either (nat_le end c.kernel.time) (λ r. r) (sleeps c end)

abbrev pub clock_nanosleep : Syscall → SyscallResult
clock_nanosleep c = unless c (clock_nanosleep_tests c) λ _. clock_nanosleep_effect c
