-- The event at a position, and the events before it.
use Rattle.std.proofs.Common.{inl, inr, ◌≡◌, ℕ, zero, suc, ◌+◌, ◌-◌, ◌<◌, ◌≤◌, List, [], ◌∷◌, ◌++◌, length, take, drop, reverse, Some, refl, sym, ap, ◌∙◌, arith}
use Rattle.std.specs.Prelude.{slice_get}
use Rattle.std.proofs.Math.Seq.{drop-nil}
use Rattle.std.proofs.lemmas.Bool.{cases_lt}
use Rattle.std.proofs.lemmas.List.{reverse-append, reverse-reverse, length-reverse, length-drop, drop-drop, take_all}
use Rattle.std.proofs.lemmas.Option.{slice_get_within}
use Rattle.trace_model.specs.declared.event_kinds.Event.{Event}
use Rattle.trace_model.specs.Sizes.{since, before}
use Rattle.trace_model.specs.Positions.{event_at, PartsAreInTime}
use Rattle.trace_model.proofs.Ended.{take-reverse, since-reverse}

reversed : (e : Event) (past : List Event) → reverse (e ∷ past) ≡ reverse past ++ e ∷ []
reversed e past = reverse-append (e ∷ []) past

get_last : {A : Type 0} (xs : List A) (x : A) → slice_get (xs ++ x ∷ []) (length xs) ≡ Some x
get_last [] x = refl
get_last (y ∷ xs) x = get_last xs x

get_earlier : {A : Type 0} (xs : List A) (x : A) (p : ℕ) → p < length xs → slice_get (xs ++ x ∷ []) p ≡ slice_get xs p
get_earlier [] x p h = absurd (omega (arith, h))
get_earlier (y ∷ xs) x zero h = refl
get_earlier (y ∷ xs) x (suc p) h = get_earlier xs x p (omega (arith, h))

-- the newest event stands behind all others
pub event_new : (e : Event) (past : List Event) → event_at (e ∷ past) (length past) ≡ Some e
event_new e past =
    ap (λ es. slice_get es (length past)) (reversed e past)
    ∙ ap (slice_get (reverse past ++ e ∷ [])) (sym (length-reverse past))
    ∙ get_last (reverse past) e

pub event_old : (e : Event) (past : List Event) (p : ℕ) → p < length past → event_at (e ∷ past) p ≡ event_at past p
event_old e past p h = ap (λ es. slice_get es p) (reversed e past) ∙ get_earlier (reverse past) e p (omega (arith, h, length-reverse past))

pub event_within : (past : List Event) (p : ℕ) (e : Event) → event_at past p ≡ Some e → p < length past
event_within past p e is = omega (arith, slice_get_within (reverse past) p e is, length-reverse past)

pub before_all : (past : List Event) (q : ℕ) → length past ≤ q → before past q ≡ past
before_all past q h = ap (λ k. drop k past) (nothing (length past) q h)
  where
    nothing : (n q : ℕ) → n ≤ q → n - q ≡ 0
    nothing n q h = omega arith

pub before_more : (e : Event) (past : List Event) (q : ℕ) → q ≤ length past → before (e ∷ past) q ≡ before past q
before_more e past q h = ap (λ k. drop k (e ∷ past)) (one (length past) q h)
  where
    one : (n q : ℕ) → q ≤ n → suc n - q ≡ suc (n - q)
    one n q h = omega arith

pub before_new : (e : Event) (past : List Event) → before (e ∷ past) (length past) ≡ past
before_new e past = before_more e past (length past) (omega arith) ∙ before_all past (length past) (omega arith)

pub event_before : (past : List Event) (q p : ℕ) → p < q → event_at (before past q) p ≡ event_at past p
event_before [] q p h = ap (λ es. event_at es p) (drop-nil (0 - q))
event_before (e ∷ past) q p h =
    elim (cases_lt (length past) q) [
      | inl all ↦ ap (λ es. event_at es p) (before_all (e ∷ past) q (omega (arith, all)))
      | inr some ↦ ap (λ es. event_at es p) (before_more e past q some) ∙ event_before past q p h ∙ sym (event_old e past p (omega (arith, some, h)))
    ]

pub before_before : (past : List Event) (q p : ℕ) → p ≤ q → before (before past q) p ≡ before past p
before_before past q p h =
    let k = length past - q in
    ap (λ n. drop (n - p) (drop k past)) (length-drop k past)
    ∙ drop-drop (length past - k - p) k past
    ∙ ap (λ n. drop n past) (same (length past) q p h)
  where
    same : (n q p : ℕ) → p ≤ q → (n - q) + (n - (n - q) - p) ≡ n - p
    same n q p h = omega arith

pub since_more : (e : Event) (past : List Event) (a : ℕ) → a < length past → since (e ∷ past) a ≡ e ∷ since past a
since_more e past a h = ap (λ k. take k (e ∷ past)) (one (length past) a h)
  where
    one : (n a : ℕ) → a < n → suc n - (a + 1) ≡ suc (n - (a + 1))
    one n a h = omega arith

pub since_none : (past : List Event) (a : ℕ) → length past ≤ a + 1 → since past a ≡ []
since_none past a h = ap (λ k. take k past) (nothing (length past) a h)
  where
    nothing : (n a : ℕ) → n ≤ a + 1 → n - (a + 1) ≡ 0
    nothing n a h = omega arith

first_in_time : (past : List Event) (q : ℕ) → reverse (before past q) ≡ take q (reverse past)
first_in_time past q =
    let n = length past in
    elim (cases_lt n q) [
      | inl all ↦ ap reverse (before_all past q (omega (arith, all))) ∙ sym (take_all q (reverse past) (omega (arith, all, length-reverse past)))
      | inr some ↦ sym (take-reverse (n - q) past) ∙ ap (λ k. take k (reverse past)) (back n q some)
    ]
  where
    back : (n q : ℕ) → q ≤ n → n - (n - q) ≡ q
    back n q h = omega arith

rest_in_time : (past : List Event) (a : ℕ) → reverse (since past a) ≡ drop (a + 1) (reverse past)
rest_in_time past a =
    ap (λ es. reverse (since es a)) (sym (reverse-reverse past)) ∙ ap reverse (since-reverse (reverse past) a) ∙ reverse-reverse (drop (a + 1) (reverse past))

pub in_time : PartsAreInTime
in_time = record { first = first_in_time; rest = rest_in_time }
