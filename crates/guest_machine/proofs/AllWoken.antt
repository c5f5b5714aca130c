-- All that are due are woken, and no others.
use Rattle.std.proofs.Common.{◌≡◌, ℕ, zero, suc, ◌<◌, ◌≤◌, Bool, true, false, cond, List, [], ◌∷◌, length, filter, Option, Some, None, arith, refl, ap, ap₂, sym, subst, ◌∙◌, inl, inr}
use Rattle.std.specs.Prelude.{not, ◌&&◌, ◌||◌, ◌==◌, is_some, All, slice_index_or, nat_le, nat_lt}
use Rattle.std.specs.Option.{option_map, unwrap_or}
use Rattle.std.specs.List.{find, list_any}
use Rattle.std.proofs.lemmas.Bool.{eq-eqb, eqb-true, or_parts}
use Rattle.std.proofs.Math.Bool.{and-false, or-true}
use Rattle.std.proofs.lemmas.Bool.Decides.{nat_tests}
use Rattle.futex_table.specs.declared.waiter.Waiter.{Waiter}
use Rattle.futex_table.specs.Once.{waits}
use Rattle.futex_table.specs.Waiting as futexes
use Rattle.virtual_clock.specs.declared.deadline.Deadline.{Deadline}
use Rattle.virtual_clock.specs.Once.{IsOnce, has}
use Rattle.virtual_clock.specs.Order.{due_now, due_of, first_of}
use Rattle.virtual_clock.specs.Steps.{after_forget}
use Rattle.virtual_clock.proofs.FirstOnes.{found_first, none_due}
use Rattle.virtual_clock.proofs.Threads.{IsOnce-filter}
use Rattle.guest_kernel.specs.declared.thread.Thread.{Thread}
use Rattle.guest_kernel.specs.Invariant.{IsState}
use Rattle.guest_kernel.specs.Kernel.{KernelState, is_blocked, is_thread, unblocked}
use Rattle.guest_kernel.specs.Waking.{moved_on, next_due, no_sooner, some_can_run, woken_by, woken_by_time}
use Rattle.guest_kernel.proofs.Blocked.{unblocked_state}
use Rattle.guest_kernel.proofs.ClockWakings.{awake, due-first, due_lives, has-at, moved_able, moved_deadlines, moved_none, none_due_of_none, one_less}
use Rattle.guest_kernel.proofs.Times.{at_time_is_state}
use Rattle.guest_machine.specs.Laws.{EveryWakingAnswers, EveryWakingTakesTheDue, due_answer, with_due}
use Rattle.guest_words.specs.ByThread.{value_of}
use Rattle.guest_words.proofs.ThreadTables.{value_of-with}
use Rattle.rv_exec.specs.Registers.{Registers}
use Rattle.guest_machine.specs.Machine.{Hart, MachineState, no_registers, registers_of, with_registers}
use Rattle.guest_machine.specs.Sound.{IsSoundMachine}
use Rattle.guest_machine.specs.Waking.{answered, one_woken, with_answer, woken, woken_times}
use Rattle.guest_machine.proofs.ClockWakings.{has_registers, idle_times, sound_woken}
use Rattle.guest_machine.proofs.Registers as registers

-- ---- what one waking leaves
forget-waits : (ws : List Waiter) (tid : ℕ) → waits (futexes.after_forget ws tid) tid ≡ false
forget-waits [] tid = refl
forget-waits (w ∷ ws) tid = by (w.tid == tid) refl (forget-waits ws tid)
  where
    by : (b : Bool) → (w.tid == tid) ≡ b → waits (futexes.after_forget ws tid) tid ≡ false → waits (cond (not b) (w ∷ futexes.after_forget ws tid) (futexes.after_forget ws tid)) tid ≡ false
    by true is rest = rest
    by false is rest = ap₂ (λ (a b : Bool). a || b) is rest

forget-has : (ds : List Deadline) (tid : ℕ) → has (after_forget ds tid) tid ≡ false
forget-has [] tid = refl
forget-has (d ∷ ds) tid = by (d.tid == tid) refl (forget-has ds tid)
  where
    by : (b : Bool) → (d.tid == tid) ≡ b → has (after_forget ds tid) tid ≡ false → has (cond (not b) (d ∷ after_forget ds tid) (after_forget ds tid)) tid ≡ false
    by true is rest = rest
    by false is rest = ap₂ (λ (a b : Bool). a || b) is rest

one_can_run : (blocked : ℕ → Bool) (ts : List Thread) (tid : ℕ) → list_any (is_thread tid) ts ≡ true → blocked tid ≡ false → list_any (λ (t : Thread). not (blocked t.tid)) ts ≡ true
one_can_run blocked [] tid live free = absurd (cc)
one_can_run blocked (t ∷ ts) tid live free = by (t.tid == tid) refl live (λ later. one_can_run blocked ts tid later free)
  where
    by : (b : Bool) → (t.tid == tid) ≡ b → (b || list_any (is_thread tid) ts) ≡ true → (list_any (is_thread tid) ts ≡ true → list_any (λ (u : Thread). not (blocked u.tid)) ts ≡ true) →
        (not (blocked t.tid) || list_any (λ (u : Thread). not (blocked u.tid)) ts) ≡ true
    by true is live rest =
        let same : t.tid ≡ tid = eqb-true t.tid tid is in
        ap (λ (b : Bool). not b || list_any (λ (u : Thread). not (blocked u.tid)) ts) (ap blocked same ∙ free)
    by false is live rest = ap (λ (b : Bool). not (blocked t.tid) || b) (rest live) ∙ or-true (not (blocked t.tid))

moved_threads : (b : Bool) (k : KernelState) (o : Option Deadline) → (cond b k (record k { time = no_sooner k.time o })).threads ≡ k.threads
moved_threads true k o = refl
moved_threads false k o = refl

moved_is_state : (k : KernelState) → IsState k → IsState (moved_on k)
moved_is_state k is = by (some_can_run k)
  where
    by : (b : Bool) → IsState (cond b k (record k { time = no_sooner k.time (first_of k.deadlines) }))
    by true = is
    by false = at_time_is_state k _ (no_sooner k.time (first_of k.deadlines)) is refl

-- so it is sound, the time is the one that was moved on to, and a thread can run
record IsOneWoken (k new : KernelState) (d : Deadline) : Type 0 where
  pub state : IsState new
  pub time : new.time ≡ (moved_on k).time
  pub deadlines : new.deadlines ≡ after_forget k.deadlines d.tid
  pub able : some_can_run new ≡ true

one_is_woken : (k : KernelState) (d : Deadline) → IsState k → next_due k ≡ Some d → IsOneWoken k (woken_by_time k) d
one_is_woken k d is due =
    let moved : KernelState = moved_on k in
    let after : woken_by (next_due k) moved ≡ unblocked d.tid moved = ap (λ (o : Option Deadline). woken_by o moved) due in
    let free : is_blocked (unblocked d.tid moved) d.tid ≡ false = ap₂ (λ (a b : Bool). a || b) (forget-waits moved.waiting d.tid) (forget-has moved.deadlines d.tid) in
    let live : list_any (is_thread d.tid) moved.threads ≡ true = ap (list_any (is_thread d.tid)) (moved_threads (some_can_run k) k (first_of k.deadlines)) ∙ due_lives k d is due in
    record {
      state = unblocked_state moved (woken_by_time k) d.tid (moved_is_state k is) after;
      time = ap (λ (s : KernelState). s.time) after;
      deadlines = ap (λ (s : KernelState). s.deadlines) after ∙ ap (λ (ds : List Deadline). after_forget ds d.tid) (moved_deadlines (some_can_run k) k (first_of k.deadlines));
      able = ap some_can_run after ∙ one_can_run (is_blocked (unblocked d.tid moved)) moved.threads d.tid live free;
    }

-- ---- those that are later
all_later : (ds : List Deadline) (now : ℕ) → All (λ (d : Deadline). now < d.at) ds → filter (λ (d : Deadline). nat_lt now d.at) ds ≡ ds
all_later [] now ahead = refl
all_later (d ∷ ds) now ahead =
    let first : now < d.at = ahead 0 d (omega arith) in
    let yes : nat_lt now d.at ≡ true = grind (arith, nat_tests, first) in
    ap (λ (b : Bool). cond b (d ∷ filter (λ (e : Deadline). nat_lt now e.at) ds) (filter (λ (e : Deadline). nat_lt now e.at) ds)) yes
    ∙ ap (λ (es : List Deadline). d ∷ es) (all_later ds now (λ i e inside. ahead (suc i) e (omega (arith, inside))))

-- one that is not later is none of them
not_there : (ds : List Deadline) (tid : ℕ) → has ds tid ≡ false → after_forget ds tid ≡ ds
not_there [] tid none = refl
not_there (d ∷ ds) tid none =
    let parts = or_parts (d.tid == tid) (has ds tid) none in
    ap (λ (b : Bool). cond (not b) (d ∷ after_forget ds tid) (after_forget ds tid)) parts.0 ∙ ap (λ (es : List Deadline). d ∷ es) (not_there ds tid parts.1)

-- a thread has no second one
only_one : (e : Deadline) (ds : List Deadline) (i : ℕ) (d : Deadline) → IsOnce (e ∷ ds) → i < length ds → slice_index_or ds i d ≡ d → (e.tid == d.tid) ≡ true → ⊥
only_one e ds i d once inside is here =
    let own : has ds d.tid ≡ true = subst (λ (x : Deadline). has ds x.tid ≡ true) is (has-at ds i d inside) in
    let same : e.tid ≡ d.tid = eqb-true e.tid d.tid here in
    let bad : true ≡ false = sym own ∙ ap (has ds) (sym same) ∙ once.0 in
    cc

later_forget : (ds : List Deadline) (now : ℕ) (i : ℕ) (d : Deadline) → IsOnce ds → i < length ds → slice_index_or ds i d ≡ d → d.at ≤ now →
    filter (λ (e : Deadline). nat_lt now e.at) (after_forget ds d.tid) ≡ filter (λ (e : Deadline). nat_lt now e.at) ds
later_forget [] now i d once inside is low = absurd (omega arith)
later_forget (e ∷ ds) now zero d once inside is low =
    let rest : List Deadline = filter (λ (x : Deadline). nat_lt now x.at) ds in
    let here : (e.tid == d.tid) ≡ true = eq-eqb e.tid d.tid (ap (λ (x : Deadline). x.tid) is) in
    let none : has ds d.tid ≡ false = ap (λ (x : Deadline). has ds x.tid) (sym is) ∙ once.0 in
    let past : e.at ≤ now = subst (λ (x : Deadline). x.at ≤ now) (sym is) low in
    let no : nat_lt now e.at ≡ false = grind (arith, nat_tests, past) in
    ap (λ (b : Bool). filter (λ (x : Deadline). nat_lt now x.at) (cond (not b) (e ∷ after_forget ds d.tid) (after_forget ds d.tid))) here
    ∙ ap (filter (λ (x : Deadline). nat_lt now x.at)) (not_there ds d.tid none)
    ∙ sym (ap (λ (b : Bool). cond b (e ∷ rest) rest) no)
later_forget (e ∷ ds) now (suc i) d once inside is low = by (e.tid == d.tid) refl (later_forget ds now i d once.1 (omega (arith, inside)) is low)
  where
    by : (b : Bool) → (e.tid == d.tid) ≡ b → filter (λ (x : Deadline). nat_lt now x.at) (after_forget ds d.tid) ≡ filter (λ (x : Deadline). nat_lt now x.at) ds →
        filter (λ (x : Deadline). nat_lt now x.at) (cond (not b) (e ∷ after_forget ds d.tid) (after_forget ds d.tid)) ≡ filter (λ (x : Deadline). nat_lt now x.at) (e ∷ ds)
    by true here rest = absurd (only_one e ds i d once (omega (arith, inside)) is here)
    by false here rest = ap (λ (xs : List Deadline). cond (nat_lt now e.at) (e ∷ xs) xs) rest

due-past : (ds : List Deadline) (now : ℕ) (d : Deadline) → due_of ds now ≡ Some d → d.at ≤ now
due-past ds now d is = by (first_of ds) is
  where
    by_test : (b : Bool) (e : Deadline) → nat_le e.at now ≡ b → cond b (Some e) None ≡ Some d → d.at ≤ now
    by_test true e low is = let same : e ≡ d = cc in let here : e.at ≤ now = grind (arith, nat_tests, low) in subst (λ (x : Deadline). x.at ≤ now) same here
    by_test false e low is = absurd (cc)

    by : (o : Option Deadline) → due_now o now ≡ Some d → d.at ≤ now
    by None is = absurd (cc)
    by (Some e) is = by_test (nat_le e.at now) e refl is

-- the due one is none of the later ones
later_without : (k : KernelState) (d : Deadline) → IsOnce k.deadlines → next_due k ≡ Some d →
    filter (λ (x : Deadline). nat_lt (moved_on k).time x.at) (after_forget k.deadlines d.tid) ≡ filter (λ (x : Deadline). nat_lt (moved_on k).time x.at) k.deadlines
later_without k d once due =
    let inside = (found_first k.deadlines d (due-first k.deadlines (moved_on k).time d due)).0 in
    later_forget k.deadlines (moved_on k).time inside.0 d once inside.1 inside.2 (due-past k.deadlines (moved_on k).time d due)

once_without : (ds : List Deadline) (tid : ℕ) → IsOnce ds → IsOnce (after_forget ds tid)
once_without ds tid once = IsOnce-filter (λ (d : Deadline). not (d.tid == tid)) ds once

-- where none is due, the time is as it was
same_time : (k : KernelState) → next_due k ≡ None → (moved_on k).time ≡ k.time
same_time k due = elim (awake k due).able [
  | inl can ↦ ap (λ (s : KernelState). s.time) (sym (moved_able k can))
  | inr none ↦ ap (λ (s : KernelState). s.time) (sym (moved_none k (ap (λ (ds : List Deadline). option_map (λ (d : Deadline). d.at) (first_of ds)) none)))
]

-- ---- all of them
-- so many wakings leave the later ones
record IsLeft (m e : MachineState) (now : ℕ) : Type 0 where
  pub time : e.kernel.time ≡ now
  pub deadlines : e.kernel.deadlines ≡ filter (λ (d : Deadline). nat_lt now d.at) m.kernel.deadlines

left_idle : (m : MachineState) (now : ℕ) → next_due m.kernel ≡ None → (moved_on m.kernel).time ≡ now → IsLeft m m now
left_idle m now due time =
    let same : m.kernel.time ≡ now = sym (same_time m.kernel due) ∙ time in
    record {
      time = same;
      deadlines = sym (all_later m.kernel.deadlines now (subst (λ (n : ℕ). All (λ (d : Deadline). n < d.at) m.kernel.deadlines) time (none_due m.kernel.deadlines (moved_on m.kernel).time due)));
    }

left_after : (n : ℕ) (m : MachineState) (now : ℕ) → IsState m.kernel → IsOnce m.kernel.deadlines → (moved_on m.kernel).time ≡ now → length m.kernel.deadlines ≤ n → IsLeft m (woken_times n m) now
unfolding woken_times
left_after zero m now is once time within = left_idle m now (none_due_of_none m.kernel (omega (arith, within))) time
left_after (suc n) m now is once time within = by (left_after n (one_woken m) now) (next_due m.kernel) refl
  where
    by : (IsState (one_woken m).kernel → IsOnce (one_woken m).kernel.deadlines → (moved_on (one_woken m).kernel).time ≡ now → length (one_woken m).kernel.deadlines ≤ n → IsLeft (one_woken m) (woken_times n (one_woken m)) now) →
        (due : Option Deadline) → next_due m.kernel ≡ due → IsLeft m (woken_times n (one_woken m)) now
    by rest None due = subst (λ (e : MachineState). IsLeft m e now) (sym (idle_times (suc n) m due)) (left_idle m now due time)
    by rest (Some d) due =
        let one = one_is_woken m.kernel d is due in
        let less = one_less m.kernel d due in
        let still : (moved_on (one_woken m).kernel).time ≡ now = ap (λ (s : KernelState). s.time) (sym (moved_able (one_woken m).kernel one.able)) ∙ one.time ∙ time in
        let left = rest one.state (subst IsOnce (sym one.deadlines) (once_without m.kernel.deadlines d.tid once)) still (omega (arith, less, within)) in
        let later : filter (λ (x : Deadline). nat_lt now x.at) (after_forget m.kernel.deadlines d.tid) ≡ filter (λ (x : Deadline). nat_lt now x.at) m.kernel.deadlines =
        subst (λ (t : ℕ). filter (λ (x : Deadline). nat_lt t x.at) (after_forget m.kernel.deadlines d.tid) ≡ filter (λ (x : Deadline). nat_lt t x.at) m.kernel.deadlines) time (later_without m.kernel d once due) in
        record {
          time = left.time;
          deadlines = left.deadlines ∙ ap (filter (λ (x : Deadline). nat_lt now x.at)) one.deadlines ∙ later;
        }

-- ---- who has an answer
-- the deadline of the thread, where it has come
abbrev of_thread : ℕ → ℕ → Deadline → Bool
of_thread now u d = (d.tid == u) && nat_le d.at now

find_other : (ds : List Deadline) (now t u : ℕ) → (t == u) ≡ false → find (of_thread now u) (after_forget ds t) ≡ find (of_thread now u) ds
find_other [] now t u differs = refl
find_other (d ∷ ds) now t u differs = by (d.tid == t) refl (find_other ds now t u differs)
  where
    by : (b : Bool) → (d.tid == t) ≡ b → find (of_thread now u) (after_forget ds t) ≡ find (of_thread now u) ds →
        find (of_thread now u) (cond (not b) (d ∷ after_forget ds t) (after_forget ds t)) ≡ find (of_thread now u) (d ∷ ds)
    by true is rest =
        let no : (d.tid == u) ≡ false = ap (λ (n : ℕ). n == u) (eqb-true d.tid t is) ∙ differs in
        rest ∙ sym (ap (λ (b : Bool). cond (b && nat_le d.at now) (Some d) (find (of_thread now u) ds)) no)
    by false is rest = ap (λ (o : Option Deadline). cond (of_thread now u d) (Some d) o) rest

find_gone : (ds : List Deadline) (now t : ℕ) → find (of_thread now t) (after_forget ds t) ≡ None
find_gone [] now t = refl
find_gone (d ∷ ds) now t = by (d.tid == t) refl (find_gone ds now t)
  where
    by : (b : Bool) → (d.tid == t) ≡ b → find (of_thread now t) (after_forget ds t) ≡ None →
        find (of_thread now t) (cond (not b) (d ∷ after_forget ds t) (after_forget ds t)) ≡ None
    by true is rest = rest
    by false is rest = ap (λ (b : Bool). cond (b && nat_le d.at now) (Some d) (find (of_thread now t) (after_forget ds t))) is ∙ rest

find_later : (ds : List Deadline) (now u : ℕ) → All (λ (d : Deadline). now < d.at) ds → find (of_thread now u) ds ≡ None
find_later [] now u ahead = refl
find_later (d ∷ ds) now u ahead =
    let first : now < d.at = ahead 0 d (omega arith) in
    let no : nat_le d.at now ≡ false = grind (arith, nat_tests, first) in
    let off : of_thread now u d ≡ false = ap (λ (b : Bool). (d.tid == u) && b) no ∙ and-false (d.tid == u) in
    ap (λ (b : Bool). cond b (Some d) (find (of_thread now u) ds)) off ∙ find_later ds now u (λ i e inside. ahead (suc i) e (omega (arith, inside)))

find_own : (ds : List Deadline) (now i : ℕ) (d : Deadline) → IsOnce ds → i < length ds → slice_index_or ds i d ≡ d → d.at ≤ now → find (of_thread now d.tid) ds ≡ Some d
find_own [] now i d once inside is low = absurd (omega arith)
find_own (e ∷ ds) now zero d once inside is low =
    let here : (e.tid == d.tid) ≡ true = eq-eqb e.tid d.tid (ap (λ (x : Deadline). x.tid) is) in
    let past : e.at ≤ now = subst (λ (x : Deadline). x.at ≤ now) (sym is) low in
    let yes : nat_le e.at now ≡ true = grind (arith, nat_tests, past) in
    let on : of_thread now d.tid e ≡ true = ap₂ (λ (a b : Bool). a && b) here yes in
    ap (λ (b : Bool). cond b (Some e) (find (of_thread now d.tid) ds)) on ∙ ap (λ (x : Deadline). Some x) is
find_own (e ∷ ds) now (suc i) d once inside is low = by (e.tid == d.tid) refl (find_own ds now i d once.1 (omega (arith, inside)) is low)
  where
    by : (b : Bool) → (e.tid == d.tid) ≡ b → find (of_thread now d.tid) ds ≡ Some d → cond (b && nat_le e.at now) (Some e) (find (of_thread now d.tid) ds) ≡ Some d
    by true here rest = absurd (only_one e ds i d once (omega (arith, inside)) is here)
    by false here rest = rest

-- the registers after one waking
registers_with : (harts : List Hart) (t u : ℕ) (r : Registers) → is_some (value_of harts t) ≡ true → registers_of (with_registers harts t r) u ≡ cond (t == u) r (registers_of harts u)
registers_with harts t u r lives =
    ap (λ (o : Option Registers). unwrap_or o no_registers) (value_of-with harts t r (registers_of harts t) (registers.has_registers harts t lives) u) ∙ by (t == u)
  where
    by : (b : Bool) → unwrap_or (cond b (Some r) (value_of harts u)) no_registers ≡ cond b r (registers_of harts u)
    by true = refl
    by false = refl

-- each thread has the answer of its deadline, where that has come
AreAnswered : MachineState → MachineState → ℕ → ℕ → Type 0
AreAnswered m e now u = registers_of e.harts u ≡ with_due (due_answer m.kernel.deadlines now u) (registers_of m.harts u)

answered_after : (n : ℕ) (m : MachineState) (now u : ℕ) → IsSoundMachine m → IsOnce m.kernel.deadlines → (moved_on m.kernel).time ≡ now → length m.kernel.deadlines ≤ n → AreAnswered m (woken_times n m) now u
unfolding AreAnswered woken_times
answered_after zero m now u sound once time within =
    let due = none_due_of_none m.kernel (omega (arith, within)) in
    let ahead = subst (λ (t : ℕ). All (λ (d : Deadline). t < d.at) m.kernel.deadlines) time (none_due m.kernel.deadlines (moved_on m.kernel).time due) in
    sym (ap (λ (o : Option Deadline). with_due (option_map (λ (d : Deadline). d.answer) o) (registers_of m.harts u)) (find_later m.kernel.deadlines now u ahead))
answered_after (suc n) m now u sound once time within = by (answered_after n (one_woken m) now u) (next_due m.kernel) refl
  where
    by_thread : (d : Deadline) (r : Registers) → r ≡ with_answer (registers_of m.harts d.tid) d.answer → find (of_thread now d.tid) m.kernel.deadlines ≡ Some d → (b : Bool) → (d.tid == u) ≡ b →
        with_due (due_answer (after_forget m.kernel.deadlines d.tid) now u) (cond b r (registers_of m.harts u)) ≡ with_due (due_answer m.kernel.deadlines now u) (registers_of m.harts u)
    by_thread d r is own true here =
        let same : d.tid ≡ u = eqb-true d.tid u here in
        subst (λ (v : ℕ). with_due (due_answer (after_forget m.kernel.deadlines d.tid) now v) r ≡ with_due (due_answer m.kernel.deadlines now v) (registers_of m.harts v)) same
        (ap (λ (o : Option Deadline). with_due (option_map (λ (x : Deadline). x.answer) o) r) (find_gone m.kernel.deadlines now d.tid) ∙ is
        ∙ sym (ap (λ (o : Option Deadline). with_due (option_map (λ (x : Deadline). x.answer) o) (registers_of m.harts d.tid)) own))
    by_thread d r is own false here =
        ap (λ (o : Option Deadline). with_due (option_map (λ (x : Deadline). x.answer) o) (registers_of m.harts u)) (find_other m.kernel.deadlines now d.tid u here)

    by : (IsSoundMachine (one_woken m) → IsOnce (one_woken m).kernel.deadlines → (moved_on (one_woken m).kernel).time ≡ now → length (one_woken m).kernel.deadlines ≤ n → AreAnswered (one_woken m) (woken_times n (one_woken m)) now u) →
        (due : Option Deadline) → next_due m.kernel ≡ due → registers_of (woken_times n (one_woken m)).harts u ≡ with_due (due_answer m.kernel.deadlines now u) (registers_of m.harts u)
    by rest None due =
        let ahead = subst (λ (t : ℕ). All (λ (d : Deadline). t < d.at) m.kernel.deadlines) time (none_due m.kernel.deadlines (moved_on m.kernel).time due) in
        ap (λ (e : MachineState). registers_of e.harts u) (idle_times (suc n) m due)
        ∙ sym (ap (λ (o : Option Deadline). with_due (option_map (λ (d : Deadline). d.answer) o) (registers_of m.harts u)) (find_later m.kernel.deadlines now u ahead))
    by rest (Some d) due =
        let one = one_is_woken m.kernel d sound.state due in
        let less = one_less m.kernel d due in
        let still : (moved_on (one_woken m).kernel).time ≡ now = ap (λ (s : KernelState). s.time) (sym (moved_able (one_woken m).kernel one.able)) ∙ one.time ∙ time in
        let later = rest (sound_woken m sound one.state) (subst IsOnce (sym one.deadlines) (once_without m.kernel.deadlines d.tid once)) still (omega (arith, less, within)) in
        let lives = has_registers m d.tid sound (due_lives m.kernel d sound.state due) in
        let r : Registers = with_answer (registers_of m.harts d.tid) d.answer in
        let harts : registers_of (one_woken m).harts u ≡ cond (d.tid == u) r (registers_of m.harts u) =
        ap (λ (o : Option Deadline). registers_of (answered o m.harts) u) due ∙ registers_with m.harts d.tid u r lives in
        let inside = (found_first m.kernel.deadlines d (due-first m.kernel.deadlines (moved_on m.kernel).time d due)).0 in
        let past : d.at ≤ now = subst (λ (t : ℕ). d.at ≤ t) time (due-past m.kernel.deadlines (moved_on m.kernel).time d due) in
        later ∙ ap₂ (λ (ds : List Deadline) (x : Registers). with_due (due_answer ds now u) x) one.deadlines harts
        ∙ by_thread d r refl (find_own m.kernel.deadlines now inside.0 d once inside.1 inside.2 past) (d.tid == u) refl

pub every_waking_takes_the_due : EveryWakingTakesTheDue
unfolding woken
every_waking_takes_the_due m is once =
    let left = left_after (length m.kernel.deadlines) m (moved_on m.kernel).time is once refl (omega arith) in
    (left.time, left.deadlines)

pub every_waking_answers : EveryWakingAnswers
unfolding AreAnswered woken
every_waking_answers m sound once tid = answered_after (length m.kernel.deadlines) m (moved_on m.kernel).time tid sound once refl (omega arith)
