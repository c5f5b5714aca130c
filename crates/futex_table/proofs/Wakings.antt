-- Waiters who are woken one after another.
use Rattle.std.proofs.Common.{◌≡◌, ℕ, zero, suc, Bool, true, false, not, ◌||◌, cond, nat_eq, List, [], ◌∷◌, take, filter, Some, None, refl, sym, ap, ap₂, ◌∙◌, arith}
use Rattle.std.specs.List.{find}
use Rattle.std.proofs.lemmas.Bool.Decides.{nat_tests}
use Rattle.std.proofs.lemmas.Bool.{eq-eqb, or_parts}
use Rattle.std.proofs.Math.Bool.{or-true}
use Rattle.futex_table.specs.declared.waiter.Waiter.{Waiter}
use Rattle.futex_table.specs.Once.{waits, IsOnce}
use Rattle.futex_table.specs.Waiting.{waits_at, first_at, without, woken, after_wake, after_forget}
use Rattle.futex_table.proofs.Partitions.{nat_eq-sym}

some-same : {v w : Waiter} → Some v ≡ Some w → v ≡ w
some-same e = cc

-- who waits is another than one who does not
apart : (t q : ℕ) (ws : List Waiter) → waits ws t ≡ false → waits ws q ≡ true → nat_eq t q ≡ false
apart t q ws out inside = by_test (nat_eq t q) refl
  where
    by_test : (b : Bool) → nat_eq t q ≡ b → nat_eq t q ≡ false
    by_test true is = let same : t ≡ q = grind (arith, nat_tests, is) in let bad : false ≡ true = sym out ∙ ap (waits ws) same ∙ inside in absurd (cc)
    by_test false is = is

-- who does not wait need not be taken out
pub forget-none : (ws : List Waiter) (t : ℕ) → waits ws t ≡ false → after_forget ws t ≡ ws
forget-none [] t out = refl
forget-none (w ∷ ws) t out =
    let here = (or_parts (nat_eq w.tid t) (waits ws t) out).0 in
    let there = forget-none ws t (or_parts (nat_eq w.tid t) (waits ws t) out).1 in
    ap (λ (b : Bool). cond (not b) (w ∷ after_forget ws t) (after_forget ws t)) here ∙ ap (λ (xs : List Waiter). w ∷ xs) there

-- the first that waits is one of the list
found-waits : (p : Waiter → Bool) (ws : List Waiter) (v : Waiter) → find p ws ≡ Some v → waits ws v.tid ≡ true
found-waits p [] v is = absurd (cc)
found-waits p (w ∷ ws) v is = by_test (p w) is (found-waits p ws v)
  where
    by_test : (b : Bool) → cond b (Some w) (find p ws) ≡ Some v → (find p ws ≡ Some v → waits ws v.tid ≡ true) → (nat_eq w.tid v.tid || waits ws v.tid) ≡ true
    by_test true is rest = let same : w ≡ v = some-same is in ap (λ (x : Waiter). nat_eq x.tid v.tid || waits ws v.tid) same ∙ ap (λ (b : Bool). b || waits ws v.tid) (eq-eqb v.tid v.tid refl)
    by_test false is rest = ap (λ (b : Bool). nat_eq w.tid v.tid || b) (rest is) ∙ or-true (nat_eq w.tid v.tid)

-- those who wait there are the first of them and those who wait there without it
first-rest : (p : Waiter → Bool) (ws : List Waiter) (v : Waiter) → IsOnce ws → find p ws ≡ Some v → filter p ws ≡ v ∷ filter p (after_forget ws v.tid)
first-rest p [] v once is = absurd (cc)
first-rest p (w ∷ ws) v once is = by_test (p w) refl is (first-rest p ws v once.1)
  where
    by_test : (b : Bool) → p w ≡ b → cond b (Some w) (find p ws) ≡ Some v → (find p ws ≡ Some v → filter p ws ≡ v ∷ filter p (after_forget ws v.tid)) → cond b (w ∷ filter p ws) (filter p ws) ≡ v ∷ filter p (after_forget (w ∷ ws) v.tid)
    by_test true test is rest =
        let same : w ≡ v = some-same is in
        let gone : after_forget (w ∷ ws) w.tid ≡ ws = ap (λ (b : Bool). cond (not b) (w ∷ after_forget ws w.tid) (after_forget ws w.tid)) (eq-eqb w.tid w.tid refl) ∙ forget-none ws w.tid once.0 in
        ap (λ (xs : List Waiter). w ∷ filter p xs) (sym gone) ∙ ap (λ (x : Waiter). x ∷ filter p (after_forget (w ∷ ws) x.tid)) same
    by_test false test is rest =
        let other : nat_eq w.tid v.tid ≡ false = apart w.tid v.tid ws once.0 (found-waits p ws v is) in
        let kept : after_forget (w ∷ ws) v.tid ≡ w ∷ after_forget ws v.tid = ap (λ (b : Bool). cond (not b) (w ∷ after_forget ws v.tid) (after_forget ws v.tid)) other in
        rest is ∙ ap (λ (xs : List Waiter). v ∷ xs) (ap (λ (b : Bool). cond b (w ∷ filter p (after_forget ws v.tid)) (filter p (after_forget ws v.tid))) (sym test) ∙ ap (filter p) (sym kept))

-- one more is taken out
without-more : (ws gone : List Waiter) (v : Waiter) → without ws (v ∷ gone) ≡ without (after_forget ws v.tid) gone
without-more [] gone v = refl
without-more (w ∷ ws) gone v = by_test (nat_eq w.tid v.tid) refl (without-more ws gone v)
  where
    by_test : (b : Bool) → nat_eq w.tid v.tid ≡ b → without ws (v ∷ gone) ≡ without (after_forget ws v.tid) gone → without (w ∷ ws) (v ∷ gone) ≡ without (cond (not b) (w ∷ after_forget ws v.tid) (after_forget ws v.tid)) gone
    by_test true is rest =
        let same : nat_eq v.tid w.tid ≡ true = nat_eq-sym v.tid w.tid ∙ is in
        ap (λ (b : Bool). cond (not (b || waits gone w.tid)) (w ∷ without ws (v ∷ gone)) (without ws (v ∷ gone))) same ∙ rest
    by_test false is rest =
        let same : nat_eq v.tid w.tid ≡ false = nat_eq-sym v.tid w.tid ∙ is in
        ap₂ (λ (b : Bool) (xs : List Waiter). cond (not (b || waits gone w.tid)) (w ∷ xs) xs) same rest

without-none : (ws : List Waiter) → without ws [] ≡ ws
without-none [] = refl
without-none (w ∷ ws) = ap (λ (xs : List Waiter). w ∷ xs) (without-none ws)

-- the first is woken, and then one less
pub woken-first : (ws : List Waiter) (at bits n : ℕ) (v : Waiter) → IsOnce ws → first_at ws at bits ≡ Some v → woken ws at (suc n) bits ≡ v ∷ woken (after_forget ws v.tid) at n bits
woken-first ws at bits n v once is = ap (take (suc n)) (first-rest (waits_at at bits) ws v once is)

pub wake-first : (ws : List Waiter) (at bits n : ℕ) (v : Waiter) → IsOnce ws → first_at ws at bits ≡ Some v → after_wake ws at (suc n) bits ≡ after_wake (after_forget ws v.tid) at n bits
wake-first ws at bits n v once is =
    ap (without ws) (woken-first ws at bits n v once is) ∙ without-more ws (woken (after_forget ws v.tid) at n bits) v

-- where none waits there, none is woken
none-waits : (p : Waiter → Bool) (ws : List Waiter) → find p ws ≡ None → filter p ws ≡ []
none-waits p [] is = refl
none-waits p (w ∷ ws) is = by_test (p w) is (none-waits p ws)
  where
    by_test : (b : Bool) → cond b (Some w) (find p ws) ≡ None → (find p ws ≡ None → filter p ws ≡ []) → cond b (w ∷ filter p ws) (filter p ws) ≡ []
    by_test true is rest = absurd (cc)
    by_test false is rest = rest is

take-none : (n : ℕ) → take n (let none : List Waiter = [] in none) ≡ []
take-none zero = refl
take-none (suc n) = refl

pub woken-none : (ws : List Waiter) (at bits n : ℕ) → first_at ws at bits ≡ None → woken ws at n bits ≡ []
woken-none ws at bits n is = ap (take n) (none-waits (waits_at at bits) ws is) ∙ take-none n

pub wake-none : (ws : List Waiter) (at bits n : ℕ) → first_at ws at bits ≡ None → after_wake ws at n bits ≡ ws
wake-none ws at bits n is = ap (without ws) (woken-none ws at bits n is) ∙ without-none ws

-- of none is woken none
pub wake-zero : (ws : List Waiter) (at bits : ℕ) → after_wake ws at zero bits ≡ ws
wake-zero ws at bits = without-none ws
