-- The time of a state says nothing of its threads.
use Rattle.std.proofs.Common.{◌≡◌, ℕ, zero, suc, ◌+◌, ◌*◌, ◌≤◌, ap, sym, subst, ◌∙◌, arith}
use Rattle.std.specs.Prelude.{min}
use Rattle.guest_kernel.specs.Invariant.{IsState}
use Rattle.guest_kernel.specs.Kernel.{KernelState, last_time, later, later_by, step_time}

at_time : (k : KernelState) (time : ℕ) → IsState k → IsState (record k { time = time })
at_time k time is = record {
  rising = is.rising;
  few = is.few;
  blocked_live = is.blocked_live;
  stdin_within = is.stdin_within;
  descriptors_sound = is.descriptors_sound;
}

pub at_time_is_state : (k new : KernelState) (time : ℕ) → IsState k → new ≡ record k { time = time } → IsState new
at_time_is_state k new time is after = subst IsState (sym after) (at_time k time is)

pub later_is_state : (k : KernelState) → IsState k → IsState (later k)
later_is_state k is = at_time k (later k).time is

-- so many steps later, counted at once
pub later_by_is : (n : ℕ) (k : KernelState) → k.time ≤ last_time → later_by n k ≡ record k { time = min (k.time + min (n * step_time) last_time) last_time }
later_by_is zero k most = ap (λ time. record k { time = time }) (let e : k.time ≡ min (k.time + min (0 * step_time) last_time) last_time = omega (arith, most) in e)
later_by_is (suc n) k most =
    ap later (later_by_is n k most)
    ∙ ap (λ time. record k { time = time })
    (let e : min (min (k.time + min (n * step_time) last_time) last_time + step_time) last_time ≡ min (k.time + min (suc n * step_time) last_time) last_time = omega arith in e)

pub later_by_is_state : (n : ℕ) (k : KernelState) → IsState k → IsState (later_by n k)
later_by_is_state zero k is = is
later_by_is_state (suc n) k is = later_is_state (later_by n k) (later_by_is_state n k is)
