-- Threads that sleep.
use Rattle.std.proofs.Common.{◌≡◌, ℕ, ◌<◌, Bool, true, false, List, [], ◌∷◌, length, map, filter, arith, refl, ap, ap₂, sym, subst, ◌∙◌, inl, inr}
use Rattle.std.specs.Prelude.{not, ◌||◌, ◌==◌}
use Rattle.std.proofs.lemmas.Bool.{cases_eq, ne_eqb}
use Rattle.std.proofs.lemmas.List.{length-map}
use Rattle.std.proofs.lemmas.List.Folds.{list_any-append}
use Rattle.futex_table.specs.declared.waiter.Waiter.{Waiter}
use Rattle.futex_table.specs.Once.{waits}
use Rattle.futex_table.specs.Once as futexes
use Rattle.virtual_clock.specs.declared.deadline.Deadline.{Deadline}
use Rattle.virtual_clock.specs.Once.{IsOnce, has}
use Rattle.virtual_clock.specs.Steps.{after_set}
use Rattle.guest_kernel.specs.Waits.{with_deadline}
use Rattle.guest_kernel.specs.Invariant.{IsState}
use Rattle.guest_kernel.specs.Kernel.{KernelState, is_thread, lives}
use Rattle.guest_kernel.proofs.Blocked.{unblocked_parts}
use Rattle.guest_kernel.proofs.Leaving.{still_gone}
use Rattle.guest_kernel.proofs.Queues.{fewer_without, no_more_wait}

-- ---- room for one more deadline
-- threads with a deadline, as if they waited
abbrev as_waiter : Deadline → Waiter
as_waiter d = record { at = 0; tid = d.tid; bits = 0 }

as_waits : (ds : List Deadline) (q : ℕ) → waits (map as_waiter ds) q ≡ has ds q
as_waits [] q = refl
as_waits (d ∷ ds) q = ap (λ (b : Bool). (d.tid == q) || b) (as_waits ds q)

as_once : (ds : List Deadline) → IsOnce ds → futexes.IsOnce (map as_waiter ds)
as_once [] once = tt
as_once (d ∷ ds) once = (as_waits ds d.tid ∙ once.0, as_once ds once.1)

-- fewer have a deadline than live, where a live one has none
pub fewer_have : (k : KernelState) (tid : ℕ) → IsState k → IsOnce k.deadlines → lives k tid ≡ true → has k.deadlines tid ≡ false → length k.deadlines < length k.threads
fewer_have k tid is once live none =
    let fewer = fewer_without k.threads tid live in
    let same : length (map as_waiter k.deadlines) ≡ length k.deadlines = length-map k.deadlines as_waiter in
    let rest = no_more_wait (map as_waiter k.deadlines) (filter (λ t. not (is_thread tid t)) k.threads) (as_once k.deadlines once) (λ q out. as_waits k.deadlines q ∙ elim (cases_eq q tid) [
      | inl here ↦ subst (λ (n : ℕ). has k.deadlines n ≡ false) (sym here) none
      | inr differs ↦ (unblocked_parts k q (is.blocked_live q (still_gone k.threads tid q differs out))).1
    ]) in
    omega (arith, fewer, same, rest)

-- the state with it is sound
has-set : (ds : List Deadline) (tid at answer q : ℕ) → has ds q ≡ false → (q ≡ tid → ⊥) → has (after_set ds tid at answer) q ≡ false
has-set ds tid at answer q none differs =
    list_any-append (λ d. d.tid == q) ds (record { tid = tid; at = at; answer = answer } ∷ [])
    ∙ ap₂ (λ (a b : Bool). a || (b || false)) none (ne_eqb tid q (λ same. differs (sym same)))

deadline_state : (k : KernelState) (tid at answer : ℕ) → IsState k → lives k tid ≡ true → IsState (with_deadline tid at answer k)
deadline_state k tid at answer is live = record {
  rising = is.rising;
  few = is.few;
  blocked_live = λ q gone.
      let parts = unblocked_parts k q (is.blocked_live q gone) in
      ap₂ (λ (a b : Bool). a || b) parts.0 (has-set k.deadlines tid at answer q parts.1 (λ same. let bad : true ≡ false = sym live ∙ ap (lives k) (sym same) ∙ gone in absurd (cc)));
  stdin_within = is.stdin_within;
  descriptors_sound = is.descriptors_sound;
}

pub deadline_is_state : (k new : KernelState) (tid at answer : ℕ) → IsState k → lives k tid ≡ true → new ≡ with_deadline tid at answer k → IsState new
deadline_is_state k new tid at answer is live after = subst IsState (sym after) (deadline_state k tid at answer is live)
