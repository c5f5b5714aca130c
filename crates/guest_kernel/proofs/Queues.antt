-- Threads that wait.
use Rattle.std.proofs.Common.{◌≡◌, ℕ, zero, suc, ◌<◌, ◌≤◌, ◌+◌, Bool, true, false, cond, List, [], ◌∷◌, length, map, filter, take, arith, refl, ap, ap₂, sym, subst, ◌∙◌, inl, inr}
use Rattle.std.specs.Prelude.{not, ◌&&◌, ◌||◌, ◌==◌}
use Rattle.std.specs.List.{list_any}
use Rattle.std.proofs.lemmas.Bool.{cases_eq, eq-eqb, or_parts}
use Rattle.std.proofs.lemmas.List.Folds.{list_any-append}
use Rattle.futex_table.specs.declared.waiter.Waiter.{Waiter}
use Rattle.futex_table.specs.Once.{waits, IsOnce}
use Rattle.futex_table.specs.Waiting.{all_bits, woken, after_wake, after_shift, shifted, after_requeue, moved_to, waits_at}
use Rattle.futex_table.proofs.Partitions.{waits-filter, waits-take}
use Rattle.futex_table.proofs.Wakings.{wake-zero}
use Rattle.guest_kernel.specs.Waits.{moved_at, requeued, woken_at}
use Rattle.guest_kernel.specs.declared.thread.Thread.{Thread}
use Rattle.guest_kernel.specs.Invariant.{IsState}
use Rattle.guest_kernel.specs.Kernel.{KernelState, is_blocked, is_thread, lives, can_run}
use Rattle.guest_kernel.proofs.Blocked.{can_run-lives, does_not_wait, not_blocked, unblocked_parts}
use Rattle.guest_kernel.proofs.Leaving.{few_left, still_gone, woken_can_run}

live_head : (b : Bool) (t : Thread) (rest : List Thread) (n : ℕ) → (b ≡ false → length rest < n) → length rest ≤ n → length (cond (not b) (t ∷ rest) rest) < suc n
live_head true t rest n later all = omega (arith, all)
live_head false t rest n later all = let h = later refl in omega (arith, h)

-- fewer threads are left where a live one is taken out
pub fewer_without : (ts : List Thread) (tid : ℕ) → list_any (is_thread tid) ts ≡ true → length (filter (λ t. not (is_thread tid t)) ts) < length ts
fewer_without [] tid live = absurd (cc)
fewer_without (t ∷ ts) tid live =
    live_head (is_thread tid t) t (filter (λ u. not (is_thread tid u)) ts) (length ts)
    (λ other. fewer_without ts tid (ap (λ (b : Bool). b || list_any (is_thread tid) ts) (sym other) ∙ live))
    (few_left (λ u. not (is_thread tid u)) ts)

bool_cases : (b : Bool) (P : Type 0) → (b ≡ true → P) → (b ≡ false → P) → P
bool_cases true P one other = one refl
bool_cases false P one other = other refl

-- who waits, each once, are no more than those who live
pub no_more_wait : (ws : List Waiter) (ts : List Thread) → IsOnce ws → ((q : ℕ) → list_any (is_thread q) ts ≡ false → waits ws q ≡ false) → length ws ≤ length ts
no_more_wait [] ts once gone = omega arith
no_more_wait (w ∷ ws) ts once gone =
    let live : list_any (is_thread w.tid) ts ≡ true = bool_cases (list_any (is_thread w.tid) ts) (list_any (is_thread w.tid) ts ≡ true) (λ h. h) (λ h. let bad : true ≡ false = ap (λ (b : Bool). b || waits ws w.tid) (sym (eq-eqb w.tid w.tid refl)) ∙ gone w.tid h in absurd (cc)) in
    let fewer = fewer_without ts w.tid live in
    let rest = no_more_wait ws (filter (λ t. not (is_thread w.tid t)) ts) once.1 (λ q out. elim (cases_eq q w.tid) [
      | inl same ↦ subst (λ (n : ℕ). waits ws n ≡ false) (sym same) once.0
      | inr differs ↦ (or_parts (w.tid == q) (waits ws q) (gone q (still_gone ts w.tid q differs out))).1
    ]) in
    omega (arith, fewer, rest)

-- fewer wait than live, where one can run
pub fewer_wait : (k : KernelState) (tid : ℕ) → IsState k → IsOnce k.waiting → can_run k tid ≡ true → length k.waiting < length k.threads
fewer_wait k tid is once can =
    let live : lives k tid ≡ true = can_run-lives k tid can in
    let fewer = fewer_without k.threads tid live in
    let rest = no_more_wait k.waiting (filter (λ t. not (is_thread tid t)) k.threads) once (λ q out. elim (cases_eq q tid) [
      | inl same ↦ subst (λ (n : ℕ). waits k.waiting n ≡ false) (sym same) (does_not_wait k tid can)
      | inr differs ↦ (unblocked_parts k q (is.blocked_live q (still_gone k.threads tid q differs out))).0
    ]) in
    omega (arith, fewer, rest)

no_move : (to : ℕ) (ws : List Waiter) (q : ℕ) → waits ws q ≡ false → waits (map (moved_to to) ws) q ≡ false
no_move to [] q out = refl
no_move to (w ∷ ws) q out =
    let parts = or_parts (w.tid == q) (waits ws q) out in
    ap₂ (λ (a b : Bool). a || b) parts.0 (no_move to ws q parts.1)

-- who does not wait does not wait after others are moved
moved_out : (ws : List Waiter) (at most to q : ℕ) → waits ws q ≡ false → waits (after_shift ws at most to) q ≡ false
moved_out ws at most to q out =
    let moved : List Waiter = woken ws at most all_bits in
    let front : waits (filter (λ w. not (waits moved w.tid)) ws) q ≡ false = waits-filter (λ w. not (waits moved w.tid)) ws q out in
    let back : waits (map (moved_to to) moved) q ≡ false = no_move to moved q (waits-take most (filter (waits_at at all_bits) ws) q (waits-filter (waits_at at all_bits) ws q out)) in
    list_any-append (λ w. w.tid == q) (filter (λ w. not (waits moved w.tid)) ws) (map (moved_to to) moved) ∙ ap₂ (λ (a b : Bool). a || b) front back

moved_unblocked : (k : KernelState) (at most to q : ℕ) → is_blocked k q ≡ false → is_blocked (moved_at at most to k) q ≡ false
moved_unblocked k at most to q out =
    let parts = unblocked_parts k q out in
    ap₂ (λ (a b : Bool). a || b) (moved_out k.waiting at most to q parts.0) parts.1

-- who can run still can where others are woken and moved
pub requeued_can_run : (k : KernelState) (at most shift to tid : ℕ) → can_run k tid ≡ true → can_run (requeued at most shift to k) tid ≡ true
requeued_can_run k at most shift to tid can =
    let left : KernelState = woken_at at most all_bits k in
    let still : can_run left tid ≡ true = woken_can_run k left at most all_bits tid refl can in
    ap₂ (λ (a b : Bool). a && not b) (can_run-lives left tid still) (moved_unblocked left at shift to tid (not_blocked left tid still))

moved_state : (k : KernelState) (at most to : ℕ) → IsState k → IsState (moved_at at most to k)
moved_state k at most to is = record {
  rising = is.rising;
  few = is.few;
  blocked_live = λ q gone. moved_unblocked k at most to q (is.blocked_live q gone);
  stdin_within = is.stdin_within;
  descriptors_sound = is.descriptors_sound;
}

pub moved_is_state : (k new : KernelState) (at most to : ℕ) → IsState k → new ≡ moved_at at most to k → IsState new
moved_is_state k new at most to is after = subst IsState (sym after) (moved_state k at most to is)

-- a requeue that wakes none moves the first
pub moves_only : (ws : List Waiter) (at most to : ℕ) → after_requeue ws at 0 most to ≡ after_shift ws at most to
moves_only ws at most to = ap (λ (xs : List Waiter). after_shift xs at most to) (wake-zero ws at all_bits)

pub shifts_only : (ws : List Waiter) (at most : ℕ) → length (shifted ws at 0 most) ≡ length (woken ws at most all_bits)
shifts_only ws at most = ap (λ (xs : List Waiter). length (woken xs at most all_bits)) (wake-zero ws at all_bits)

length_take_le : (n : ℕ) (ws : List Waiter) → length (take n ws) ≤ length ws
length_take_le zero ws = omega arith
length_take_le (suc n) [] = omega arith
length_take_le (suc n) (w ∷ ws) = let h = length_take_le n ws in omega (arith, h)

few_cond : (b : Bool) (w : Waiter) (rest : List Waiter) (n : ℕ) → length rest ≤ n → length (cond b (w ∷ rest) rest) ≤ n + 1
few_cond true w rest n h = omega (arith, h)
few_cond false w rest n h = omega (arith, h)

length_filter_le : (test : Waiter → Bool) (ws : List Waiter) → length (filter test ws) ≤ length ws
length_filter_le test [] = omega arith
length_filter_le test (w ∷ ws) = let h = few_cond (test w) w (filter test ws) (length ws) (length_filter_le test ws) in omega (arith, h)

-- no more are woken than wait
pub few_woken : (ws : List Waiter) (at most bits : ℕ) → length (woken ws at most bits) ≤ length ws
few_woken ws at most bits =
    let a = length_take_le most (filter (waits_at at bits) ws) in
    let b = length_filter_le (waits_at at bits) ws in
    omega (arith, a, b)

pub few_shifted : (ws : List Waiter) (at most shift : ℕ) → length (shifted ws at most shift) ≤ length ws
few_shifted ws at most shift =
    let a = few_woken (after_wake ws at most all_bits) at shift all_bits in
    let b = length_filter_le (λ w. not (waits (woken ws at most all_bits) w.tid)) ws in
    omega (arith, a, b)
