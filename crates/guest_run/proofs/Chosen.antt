-- The thread of a turn can run.
use Rattle.std.proofs.Common.{◌≡◌, ℕ, Bool, true, false, cond, eqb, List, [], ◌∷◌, min, Option, Some, None, refl, sym, ap, ap₂, ◌∙◌, subst, inl, inr, arith}
use Rattle.std.specs.Prelude.{◌==◌, ◌&&◌, not, nat_lt, filter, map}
use Rattle.std.specs.List.{list_any}
use Rattle.std.specs.Option.{option_or}
use Rattle.std.proofs.lemmas.Bool.{eq-eqb, or_left, or_right, cases_lt, or_cases}
use Rattle.std.proofs.lemmas.Bool.Decides.{nat_tests}
use Rattle.guest_kernel.specs.declared.thread.Thread.{Thread}
use Rattle.guest_kernel.specs.Kernel.{KernelState, can_run, is_blocked, is_thread, ready}
use Rattle.thread_sched.specs.declared.entry.Entry.{Entry}
use Rattle.thread_sched.specs.declared.turns.Turn.TheVariants.{Run, Mismatch}
use Rattle.thread_sched.specs.TurnRule.{SchedulerState, able, above, least, lesser, next_thread, scheduled, turn_if, turn_of}

-- the thread is in the list
abbrev pub Has : List ℕ → ℕ → Type 0
Has tids t = list_any (λ tid. tid == t) tids ≡ true

Has-least : (tids : List ℕ) (t : ℕ) → least tids ≡ Some t → Has tids t
Has-least [] t e = absurd (cc)
Has-least (x ∷ xs) t e = by (λ u. Has-least xs u) (least xs) refl e
  where
    by : ((u : ℕ) → least xs ≡ Some u → Has xs u) → (o : Option ℕ) → least xs ≡ o → Some (lesser x o) ≡ Some t → Has (x ∷ xs) t
    by ih None found first = let same : x ≡ t = cc in or_left (eqb x t) _ (eq-eqb x t same)
    by ih (Some y) found first =
        let same : min x y ≡ t = cc in
        elim (cases_lt x y) [
          | inl h ↦ or_left (eqb x t) _ (eq-eqb x t (omega (arith, same, h)))
          | inr h ↦
              let that : y ≡ t = omega (arith, same, h) in
              or_right (eqb x t) _ (ih t (found ∙ ap Some that))
        ]

Has-filter : (p : ℕ → Bool) (tids : List ℕ) (t : ℕ) → Has (filter p tids) t → Has tids t
Has-filter p [] t h = h
Has-filter p (x ∷ xs) t h = by (Has-filter p xs t) (p x) h
  where
    by : (Has (filter p xs) t → Has xs t) → (b : Bool) → Has (cond b (x ∷ filter p xs) (filter p xs)) t → Has (x ∷ xs) t
    by ih true h' = elim (or_cases (eqb x t) _ h') [
      | inl here ↦ or_left (eqb x t) _ here
      | inr later ↦ or_right (eqb x t) _ (ih later)
    ]
    by ih false h' = or_right (eqb x t) _ (ih h')

pub Has-next_thread : (last : ℕ) (tids : List ℕ) (t : ℕ) → next_thread last tids ≡ Some t → Has tids t
Has-next_thread last tids t e = by (least (above last tids)) refl e
  where
    by : (o : Option ℕ) → least (above last tids) ≡ o → option_or o (least tids) ≡ Some t → Has tids t
    by None found first = Has-least tids t first
    by (Some u) found first = Has-filter (λ tid. nat_lt last tid) tids t (Has-least _ t (found ∙ first))

Run-tid : (t most u most' : ℕ) → Run t most ≡ Run u most' → t ≡ u
Run-tid t most u most' e = cc

-- the thread of a turn is one of those that can run
pub Has-turn : (k : SchedulerState) (live : List (ℕ × Bool)) (t most : ℕ) → turn_of k live ≡ Run t most → Has (able live) t
Has-turn k live t most e = by (next_thread k.last (able live)) refl e
  where
    scheduled-has : (next : ℕ) → Has (able live) next → (es : List Entry) → scheduled k (able live) next es ≡ Run t most → Has (able live) t
    scheduled-has next has [] e = subst (λ u. Has (able live) u) (Run-tid next k.quantum t most e) has
    scheduled-has next has (entry ∷ es) e = named (list_any (λ u. u == entry.tid) (able live)) refl e
      where
        named : (b : Bool) → list_any (λ u. u == entry.tid) (able live) ≡ b → cond b (Run entry.tid entry.most) (Mismatch k.line) ≡ Run t most → Has (able live) t
        named true can e = subst (λ u. Has (able live) u) (Run-tid entry.tid entry.most t most e) can
        named false can e = absurd (cc)

    by : (o : Option ℕ) → next_thread k.last (able live) ≡ o → turn_if k (able live) o ≡ Run t most → Has (able live) t
    by None found e = absurd (cc)
    by (Some next) found e = scheduled-has next (Has-next_thread k.last (able live) next found) k.entries e

-- a thread of the list can run
ready-can : (waiting : ℕ → Bool) (threads : List Thread) (t : ℕ) → Has (able (map (λ (x : Thread). (x.tid, not (waiting x.tid))) threads)) t →
    (list_any (is_thread t) threads ≡ true) × (not (waiting t) ≡ true)
ready-can waiting [] t h = absurd (cc)
ready-can waiting (x ∷ threads) t h = by (not (waiting x.tid)) refl (ready-can waiting threads t) h
  where
    later : (list_any (is_thread t) threads ≡ true) × (not (waiting t) ≡ true) → (list_any (is_thread t) (x ∷ threads) ≡ true) × (not (waiting t) ≡ true)
    later ih = (or_right (eqb x.tid t) (list_any (is_thread t) threads) ih.0, ih.1)

    by : (b : Bool) → not (waiting x.tid) ≡ b → (Has (able (map (λ (x : Thread). (x.tid, not (waiting x.tid))) threads)) t → (list_any (is_thread t) threads ≡ true) × (not (waiting t) ≡ true)) →
        Has (map (λ (p : ℕ × Bool). p.0) (cond b ((x.tid, not (waiting x.tid)) ∷ filter (λ (p : ℕ × Bool). p.1) (map (λ (x : Thread). (x.tid, not (waiting x.tid))) threads)) (filter (λ (p : ℕ × Bool). p.1) (map (λ (x : Thread). (x.tid, not (waiting x.tid))) threads)))) t →
        (list_any (is_thread t) (x ∷ threads) ≡ true) × (not (waiting t) ≡ true)
    by true is ih h = elim (or_cases (eqb x.tid t) _ h) [
      | inl here ↦
          let same : x.tid ≡ t = grind (arith, nat_tests, here) in
          (or_left (eqb x.tid t) (list_any (is_thread t) threads) here, ap (λ u. not (waiting u)) (sym same) ∙ is)
      | inr rest ↦ later (ih rest)
    ]
    by false is ih h = later (ih h)

pub turn-can : (k : SchedulerState) (kernel : KernelState) (t most : ℕ) → turn_of k (ready kernel) ≡ Run t most → can_run kernel t ≡ true
turn-can k kernel t most e =
    let parts = ready-can (is_blocked kernel) kernel.threads t (Has-turn k (ready kernel) t most e) in
    ap₂ (λ (a b : Bool). a && b) parts.0 parts.1
