-- Threads that are not blocked.
use Rattle.std.proofs.Common.{◌≡◌, ℕ, Bool, true, false, filter, ap₂, sym, subst}
use Rattle.std.specs.Prelude.{not, ◌&&◌, ◌||◌, ◌==◌}
use Rattle.std.proofs.lemmas.Bool.{and_parts, not-true, or_parts}
use Rattle.futex_table.specs.declared.waiter.Waiter.{Waiter}
use Rattle.futex_table.specs.Once.{waits}
use Rattle.futex_table.proofs.Partitions.{waits-filter}
use Rattle.virtual_clock.specs.declared.deadline.Deadline.{Deadline}
use Rattle.virtual_clock.specs.Once.{has}
use Rattle.virtual_clock.proofs.Threads.{has-filter}
use Rattle.guest_kernel.specs.Invariant.{IsState}
use Rattle.guest_kernel.specs.Kernel.{KernelState, can_run, is_blocked, lives}

pub not_blocked : (k : KernelState) (tid : ℕ) → can_run k tid ≡ true → is_blocked k tid ≡ false
not_blocked k tid can = not-true (is_blocked k tid) (and_parts (lives k tid) (not (is_blocked k tid)) can).1

pub can_run-lives : (k : KernelState) (tid : ℕ) → can_run k tid ≡ true → lives k tid ≡ true
can_run-lives k tid can = (and_parts (lives k tid) (not (is_blocked k tid)) can).0

-- who is not blocked neither waits nor has a deadline
pub unblocked_parts : (k : KernelState) (tid : ℕ) → is_blocked k tid ≡ false → (waits k.waiting tid ≡ false) × (has k.deadlines tid ≡ false)
unblocked_parts k tid out = or_parts (waits k.waiting tid) (has k.deadlines tid) out

pub does_not_wait : (k : KernelState) (tid : ℕ) → can_run k tid ≡ true → waits k.waiting tid ≡ false
does_not_wait k tid can = (unblocked_parts k tid (not_blocked k tid can)).0

-- nor is who is not blocked where some are left of those that wait and of the deadlines
abbrev pub with_some : (Waiter → Bool) → (Deadline → Bool) → KernelState → KernelState
with_some stays lasts k = record k { waiting = filter stays k.waiting; deadlines = filter lasts k.deadlines }

pub still_unblocked : (k : KernelState) (stays : Waiter → Bool) (lasts : Deadline → Bool) (q : ℕ) → is_blocked k q ≡ false → is_blocked (with_some stays lasts k) q ≡ false
still_unblocked k stays lasts q out =
    let parts = unblocked_parts k q out in
    ap₂ (λ (a b : Bool). a || b) (waits-filter stays k.waiting q parts.0) (has-filter lasts k.deadlines q parts.1)

pub still_can_run : (k : KernelState) (stays : Waiter → Bool) (lasts : Deadline → Bool) (q : ℕ) → can_run k q ≡ true → can_run (with_some stays lasts k) q ≡ true
still_can_run k stays lasts q can =
    ap₂ (λ (a b : Bool). a && not b) (can_run-lives k q can) (still_unblocked k stays lasts q (not_blocked k q can))

pub some_left : (k : KernelState) (stays : Waiter → Bool) (lasts : Deadline → Bool) → IsState k → IsState (with_some stays lasts k)
some_left k stays lasts is = record {
  rising = is.rising;
  few = is.few;
  blocked_live = λ q gone. still_unblocked k stays lasts q (is.blocked_live q gone);
  stdin_within = is.stdin_within;
  descriptors_sound = is.descriptors_sound;
}

pub unblocked_state : (k new : KernelState) (tid : ℕ) → IsState k → new ≡ with_some (λ w. not (w.tid == tid)) (λ d. not (d.tid == tid)) k → IsState new
unblocked_state k new tid is after = subst IsState (sym after) (some_left k (λ w. not (w.tid == tid)) (λ d. not (d.tid == tid)) is)
