-- What the kernel keeps of a guest.
use Rattle.std.specs.Prelude.{ℕ, zero, suc, ◌+◌, ◌-◌, ◌^◌, min, Bool, not, ◌&&◌, ◌||◌, ◌==◌, List, [], ◌∷◌, ◌++◌, map, filter, replicate, slice_set, slice_index_or, Option, Some, None}
use Rattle.std.specs.List.{list_any}
use Rattle.futex_table.specs.declared.waiter.Waiter.{Waiter}
use Rattle.futex_table.specs.Once.{waits}
use Rattle.futex_table.specs.Waiting as futexes
use Rattle.virtual_clock.specs.declared.deadline.Deadline.{Deadline}
use Rattle.virtual_clock.specs.Once.{has}
use Rattle.virtual_clock.specs.Steps as clock
use Rattle.guest_kernel.specs.declared.channel.Channel.{Channel}
use Rattle.guest_kernel.specs.declared.channel.Channel.TheVariants.{Out, Err}
use Rattle.guest_kernel.specs.declared.descriptor.Descriptor.{Descriptor}
use Rattle.guest_kernel.specs.declared.descriptor.Descriptor.TheVariants.{Closed, StandardInput, Output}
use Rattle.guest_kernel.specs.declared.thread.Thread.{Thread}
use Rattle.guest_kernel.specs.Inputs.{Input}

pub record KernelState : Type 0 where
  -- the live ones, by rising number
  pub threads : List Thread
  -- those of them that wait at a futex, in order of waiting
  pub waiting : List Waiter
  -- when those of them wake that wait for a time, also at a futex
  pub deadlines : List Deadline
  -- what the numbers 0 to 31 stand for
  pub descriptors : List Descriptor
  pub stdin : List ℕ
  pub stdin_position : ℕ
  pub inputs : List Input
  -- where the break was at the start, and where it is
  pub first_break : ℕ
  pub program_break : ℕ
  -- the last thread number given
  pub last_tid : ℕ
  -- the time since the start, in nanoseconds
  pub time : ℕ

-- the kernel at a guest's start: thread 1 lives, and the descriptors 0, 1 and 2 are open
abbrev pub started : List Input → List ℕ → ℕ → KernelState
started inputs stdin first_break = record {
  threads = record { tid = 1; clear_tid = 0 } ∷ [];
  waiting = [];
  deadlines = [];
  descriptors = StandardInput ∷ Output Out ∷ Output Err ∷ [] ++ replicate 29 Closed;
  stdin = stdin;
  stdin_position = 0;
  inputs = inputs;
  first_break = first_break;
  program_break = first_break;
  last_tid = 1;
  time = 0;
}

-- what a number stands for; a number above 31 is closed
abbrev pub descriptor : KernelState → ℕ → Descriptor
descriptor k fd = slice_index_or k.descriptors fd Closed

abbrev pub with_descriptor : KernelState → ℕ → Descriptor → KernelState
with_descriptor k fd d = record k { descriptors = slice_set k.descriptors fd d }

-- ---- time
-- how long a step takes
abbrev pub step_time : ℕ
step_time = 1000

-- the last time of the clock, where it stays
abbrev pub last_time : ℕ
last_time = 2 ^ 64 - 1

-- the time is that of one step later
abbrev pub later : KernelState → KernelState
later k = record k { time = min (k.time + step_time) last_time }

-- the state some steps later
abbrev pub later_by : ℕ → KernelState → KernelState
later_by zero k = k
later_by (suc n) k = later (later_by n k)

-- ---- threads
abbrev pub is_thread : ℕ → Thread → Bool
is_thread tid t = t.tid == tid

abbrev pub lives : KernelState → ℕ → Bool
lives k tid = list_any (is_thread tid) k.threads

-- a thread is blocked where it waits at a futex or has a deadline
abbrev pub is_blocked : KernelState → ℕ → Bool
is_blocked k tid = waits k.waiting tid || has k.deadlines tid

-- a thread can run where it lives, is not in the waiting list and has no deadline
abbrev pub can_run : KernelState → ℕ → Bool
can_run k tid = lives k tid && not (is_blocked k tid)

-- the thread is not blocked any more
abbrev pub unblocked : ℕ → KernelState → KernelState
unblocked tid k =
    record k { waiting = futexes.after_forget k.waiting tid; deadlines = clock.after_forget k.deadlines tid }

abbrev pub other_threads : KernelState → ℕ → List Thread
other_threads k tid = filter (λ t. not (is_thread tid t)) k.threads

-- whether another thread lives
abbrev pub has_others : KernelState → ℕ → Bool
has_others k tid = list_any (λ t. not (is_thread tid t)) k.threads

-- the live threads by rising number, each with whether it can run
abbrev pub ready : KernelState → List (ℕ × Bool)
ready k = map (λ t. (t.tid, not (is_blocked k t.tid))) k.threads

-- ---- the kernel between calls
-- bytes that go out, with their channel; of no byte there is nothing
abbrev pub output : Channel → List ℕ → Option (Channel × List ℕ)
output channel [] = None
output channel (byte ∷ bytes) = Some (channel, byte ∷ bytes)
