-- The state as the program keeps it.
use Rattle.std.specs.Prelude.{◌≤◌}
use Rattle.std.specs.Vec.{vec_capacity}
use Rattle.guest_words.specs.declared.limits.TheConstants.{THREADS}
use Rattle.guest_kernel.specs.declared.state.State.TheInside.{Inside}
use Rattle.guest_kernel.specs.Invariant.{IsState}
use Rattle.guest_kernel.specs.Kernel.{KernelState}

abbrev pub state_in : Inside → KernelState
state_in s = record {
  threads = s.threads.items;
  waiting = s.waiting;
  deadlines = s.deadlines;
  descriptors = s.descriptors;
  stdin = s.stdin.items;
  stdin_position = s.stdin_position;
  inputs = s.inputs;
  first_break = s.first_break;
  program_break = s.program_break;
  last_tid = s.last_tid;
  time = s.time;
}

-- there is room for `THREADS` threads
pub record IsKept (s : Inside) : Type 0 where
  pub room : THREADS ≤ vec_capacity s.threads
  pub state : IsState (state_in s)
