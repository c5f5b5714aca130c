-- Threads that are woken one after another.
use Rattle.std.proofs.Common.{◌≡◌, ℕ, suc, ◌+◌, ◌-◌, ◌<◌, ◌≤◌, Bool, true, false, cond, List, [], ◌∷◌, length, Option, Some, None, arith, refl, ap, ap₂, sym, subst, ◌∙◌}
use Rattle.std.specs.Prelude.{is_some, ◌||◌, ◌==◌, not}
use Rattle.futex_table.specs.declared.waiter.Waiter.{Waiter}
use Rattle.futex_table.specs.Once.{waits, IsOnce}
use Rattle.futex_table.specs.Waiting.{after_wake, after_forget, first_at, woken}
use Rattle.futex_table.proofs.Partitions.{nat_eq-sym}
use Rattle.futex_table.proofs.Wakings.{wake-first, wake-none, wake-zero, woken-first, woken-none}
use Rattle.virtual_clock.specs.declared.deadline.Deadline.{Deadline}
use Rattle.virtual_clock.specs.Steps as clock
use Rattle.guest_kernel.specs.Waits.{deadlines_without, woken_at, woken_one}
use Rattle.guest_kernel.specs.Kernel.{KernelState, can_run, unblocked}
use Rattle.guest_kernel.proofs.Blocked.{still_can_run}

-- the deadlines without one more
without_more : (ds : List Deadline) (gone : List Waiter) (v : Waiter) → deadlines_without ds (v ∷ gone) ≡ deadlines_without (clock.after_forget ds v.tid) gone
without_more [] gone v = refl
without_more (d ∷ ds) gone v = by (d.tid == v.tid) refl (without_more ds gone v)
  where
    by : (b : Bool) → (d.tid == v.tid) ≡ b → deadlines_without ds (v ∷ gone) ≡ deadlines_without (clock.after_forget ds v.tid) gone →
        deadlines_without (d ∷ ds) (v ∷ gone) ≡ deadlines_without (cond (not b) (d ∷ clock.after_forget ds v.tid) (clock.after_forget ds v.tid)) gone
    by true is rest =
        let same : (v.tid == d.tid) ≡ true = nat_eq-sym v.tid d.tid ∙ is in
        ap (λ (b : Bool). cond (not (b || waits gone d.tid)) (d ∷ deadlines_without ds (v ∷ gone)) (deadlines_without ds (v ∷ gone))) same ∙ rest
    by false is rest =
        let same : (v.tid == d.tid) ≡ false = nat_eq-sym v.tid d.tid ∙ is in
        ap₂ (λ (b : Bool) (xs : List Deadline). cond (not (b || waits gone d.tid)) (d ∷ xs) xs) same rest

without_none : (ds : List Deadline) → deadlines_without ds [] ≡ ds
without_none [] = refl
without_none (d ∷ ds) = ap (λ (xs : List Deadline). d ∷ xs) (without_none ds)

-- where none is woken, nothing changes
none_at : (k : KernelState) (at n bits : ℕ) → woken k.waiting at n bits ≡ [] → after_wake k.waiting at n bits ≡ k.waiting → woken_at at n bits k ≡ k
none_at k at n bits none same =
    ap₂ (λ (ws : List Waiter) (ds : List Deadline). record k { waiting = ws; deadlines = ds }) same
    (ap (deadlines_without k.deadlines) none ∙ without_none k.deadlines)

-- the first is woken, and then one less
first_at_once : (k : KernelState) (at n bits : ℕ) (v : Waiter) → IsOnce k.waiting → first_at k.waiting at bits ≡ Some v → woken_at at (suc n) bits k ≡ woken_at at n bits (unblocked v.tid k)
first_at_once k at n bits v once is =
    ap₂ (λ (ws : List Waiter) (ds : List Deadline). record k { waiting = ws; deadlines = ds }) (wake-first k.waiting at bits n v once is)
    (ap (deadlines_without k.deadlines) (woken-first k.waiting at bits n v once is) ∙ without_more k.deadlines (woken (after_forget k.waiting v.tid) at n bits) v)

-- some were woken, and those that are still to be woken are so many
pub record IsWaking (old k : KernelState) (at bits most done : ℕ) : Type 0 where
  pub state : woken_at at (most - done) bits k ≡ woken_at at most bits old
  pub count : done + length (woken k.waiting at (most - done) bits) ≡ length (woken old.waiting at most bits)
  pub able : (tid : ℕ) → can_run old tid ≡ true → can_run k tid ≡ true
  pub inside : done ≤ most

one_able : (k : KernelState) (v : Waiter) (tid : ℕ) → can_run k tid ≡ true → can_run (unblocked v.tid k) tid ≡ true
one_able k v tid can = still_can_run k (λ w. not (w.tid == v.tid)) (λ d. not (d.tid == v.tid)) tid can

-- one more
pub one_woken : (old k new : KernelState) (at bits most done : ℕ) → IsOnce k.waiting → IsWaking old k at bits most done → done < most → new ≡ woken_one (first_at k.waiting at bits) k → is_some (first_at k.waiting at bits) ≡ true → IsWaking old new at bits most (done + 1)
one_woken old k new at bits most done once so_far less after some = by_first (first_at k.waiting at bits) refl after some
  where
    by_first : (o : Option Waiter) → first_at k.waiting at bits ≡ o → new ≡ woken_one o k → is_some o ≡ true → IsWaking old new at bits most (done + 1)
    by_first None is after some = absurd (cc)
    by_first (Some v) is after some =
        let left : most - done ≡ suc (most - (done + 1)) = omega (arith, less) in
        let n = most - (done + 1) in
        let wakes : woken_at at (most - done) bits k ≡ woken_at at n bits (unblocked v.tid k) = ap (λ (m : ℕ). woken_at at m bits k) left ∙ first_at_once k at n bits v once is in
        let counts : length (woken k.waiting at (most - done) bits) ≡ suc (length (woken (after_forget k.waiting v.tid) at n bits)) = ap (λ (m : ℕ). length (woken k.waiting at m bits)) left ∙ ap length (woken-first k.waiting at bits n v once is) in
        subst (λ (s : KernelState). IsWaking old s at bits most (done + 1)) (sym after) (record {
          state = sym wakes ∙ so_far.state;
          count = omega (arith, counts, so_far.count);
          able = λ tid can. one_able k v tid (so_far.able tid can);
          inside = omega (arith, less);
        })

-- none is left to be woken
pub record AreWoken (old new : KernelState) (at bits most count : ℕ) : Type 0 where
  pub state : new ≡ woken_at at most bits old
  pub count_is : count ≡ length (woken old.waiting at most bits)

pub all_found : (old k new : KernelState) (at bits most done : ℕ) → IsWaking old k at bits most done → new ≡ woken_one (first_at k.waiting at bits) k → is_some (first_at k.waiting at bits) ≡ false → AreWoken old new at bits most done
all_found old k new at bits most done so_far after none = by_first (first_at k.waiting at bits) refl after none
  where
    by_first : (o : Option Waiter) → first_at k.waiting at bits ≡ o → new ≡ woken_one o k → is_some o ≡ false → AreWoken old new at bits most done
    by_first (Some v) is after none = absurd (cc)
    by_first None is after none =
        let n = most - done in
        let empty = woken-none k.waiting at bits n is in
        let counts : length (woken k.waiting at n bits) ≡ 0 = ap length empty in
        record {
          state = after ∙ sym (none_at k at n bits empty (wake-none k.waiting at bits n is)) ∙ so_far.state;
          count_is = omega (arith, counts, so_far.count);
        }

pub all_woken : (old k : KernelState) (at bits most done : ℕ) → IsWaking old k at bits most done → most ≤ done → AreWoken old k at bits most most
all_woken old k at bits most done so_far enough =
    let none : most - done ≡ 0 = omega (arith, enough) in
    let here : most ≡ done = omega (arith, enough, so_far.inside) in
    let counts : length (woken k.waiting at (most - done) bits) ≡ 0 = ap (λ (n : ℕ). length (woken k.waiting at n bits)) none in
    record {
      state = sym (ap (λ (n : ℕ). woken_at at n bits k) none ∙ none_at k at 0 bits refl (wake-zero k.waiting at bits)) ∙ so_far.state;
      count_is = omega (arith, counts, so_far.count, here);
    }
