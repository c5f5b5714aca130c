-- What holds of every waking.
use Rattle.std.specs.Prelude.{◌≡◌, ◌↔◌, None}
use Rattle.guest_kernel.specs.Kernel.{KernelState}
use Rattle.guest_kernel.specs.Waking.{IsAwake, next_due}

-- no thread is woken exactly where no deadline is due, and a thread can run or no deadline is left
abbrev pub WakesExactly : Type 0
WakesExactly = (k : KernelState) → (next_due k ≡ None) ↔ IsAwake k
