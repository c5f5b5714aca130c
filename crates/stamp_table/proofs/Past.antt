-- What a well-formed past says of a thread that lives, and of one that is yet to start.
use Rattle.std.proofs.Common.{inl, inr, ◌≡◌, ◌≢◌, ◌⊎◌, ℕ, zero, suc, ◌+◌, ◌<◌, Bool, true, false, not, cond, eqb, ◌&&◌, ◌||◌, List, [], ◌∷◌, ◌++◌, length, drop, Option, Some, None, refl, sym, ap, ◌∙◌, arith}
use Rattle.std.specs.List.{position_or_len}
use Rattle.std.specs.Option.{is_none}
use Rattle.std.proofs.lemmas.Bool.{false≢true, cases_lt, cases_eq, lt-ltb, le-ltb, eq-eqb}
use Rattle.std.proofs.lemmas.List.{drop-map}
use Rattle.trace_model.specs.declared.event_kinds.Event.{Event}
use Rattle.trace_model.specs.declared.event_kinds.Event.TheVariants.{Step, Read, Write, Fill, Call, Ret, Start, End}
use Rattle.trace_model.specs.declared.activations.Activation.{Activation}
use Rattle.trace_model.specs.Events.{thread_of}
use Rattle.trace_model.specs.Activations.{is_back, count_returned, open_calls, backs}
use Rattle.trace_model.specs.Sizes.{last_touch}
use Rattle.trace_model.specs.WellFormed.{is_live, greatest_start, MayFollow, IsWellFormed}
use Rattle.call_tracker.specs.ThreadCalls.{no_counts}
use Rattle.stamp_table.specs.Past.{is_by_others, is_written, writes_word, counts_of}
use Rattle.stamp_table.proofs.Events.{apart, open_calls-apart}
use Rattle.stamp_table.proofs.Inside.{counts_idle}

-- ---- a thread that is yet to start
earlier_start : (e : Event) (past : List Event) (t : ℕ) → greatest_start (e ∷ past) < t → greatest_start past < t
earlier_start (Start a entry) past t h = omega arith
earlier_start e past t h = h

pub same_thread : (a t : ℕ) → Some a ≡ Some t → a ≡ t
same_thread a t e = cc

still_dead : (past : List Event) (a t : ℕ) → is_live past a ≡ true → is_live past t ≡ false → Some a ≢ Some t
still_dead past a t live dead same = false≢true (sym dead ∙ (sym (ap (is_live past) (same_thread a t same)) ∙ live))

-- an event is of a thread that started
not_own : (e : Event) (past : List Event) (t : ℕ) → MayFollow e past → is_live past t ≡ false → greatest_start (e ∷ past) < t → thread_of e ≢ Some t
not_own (Step a) past t may dead low own = still_dead past a t may dead own
not_own (Read a first count) past t may dead low own = still_dead past a t may.0.0 dead own
not_own (Write a first count) past t may dead low own = still_dead past a t may.0.0 dead own
not_own (Fill first count) past t may dead low own = cc
not_own (Call a entry back) past t may dead low own = still_dead past a t may.0 dead own
not_own (Ret a target) past t may dead low own = still_dead past a t may.0 dead own
not_own (Start a entry) past t may dead low own = omega (arith, low, same_thread a t own)
not_own (End a) past t may dead low own = still_dead past a t may dead own

-- it has done nothing, and sees each write as another's
pub record IsUnstarted (past : List Event) (t : ℕ) : Type 0 where
  pub dead : is_live past t ≡ false
  pub calls : open_calls past t ≡ []
  pub counts : counts_of past t ≡ no_counts
  pub touched : (l : ℕ) → is_by_others (last_touch past t l) ≡ is_written past l

pub unstarted : (past : List Event) (t : ℕ) → IsWellFormed past → greatest_start past < t → IsUnstarted past t
unstarted [] t formed low = record { dead = refl; calls = refl; counts = refl; touched = λ l. refl }
unstarted (e ∷ past) t formed low =
    let before = unstarted past t formed.2 (earlier_start e past t low) in
    let a = apart e t (not_own e past t formed.0 before.dead low) in
    record {
      dead = a.lives past ∙ before.dead;
      calls = open_calls-apart e past t a ∙ before.calls;
      counts = counts_idle e past t a.reads a.steps ∙ before.counts;
      touched = λ l. a.writes l (last_touch past t l) ∙ ap (λ b. writes_word e l || b) (before.touched l);
    }

-- ---- the root of a live thread stays open
abbrev pub ends_in_root : List (Option ℕ) → Bool
ends_in_root [] = false
ends_in_root (b ∷ []) = is_none b
ends_in_root (b ∷ c ∷ bs) = ends_in_root (c ∷ bs)

pub rooted-positive : (bs : List (Option ℕ)) → ends_in_root bs ≡ true → 0 < length bs
rooted-positive [] h = absurd (false≢true h)
rooted-positive (b ∷ bs) h = omega arith

-- the search for a return address does not find the root
not_the_root : (target : ℕ) (bs : List (Option ℕ)) → ends_in_root bs ≡ true → suc (position_or_len (is_back target) bs) ≡ length bs → ⊥
not_the_root target [] h e = false≢true h
not_the_root target (None ∷ []) h e = omega (arith, e)
not_the_root target (Some b ∷ []) h e = false≢true h
not_the_root target (b ∷ c ∷ bs) h e = by (is_back target b) e (not_the_root target (c ∷ bs) h)
  where
    by : (found : Bool) → suc (cond (not found) (1 + position_or_len (is_back target) (c ∷ bs)) 0) ≡ suc (length (c ∷ bs)) →
        (suc (position_or_len (is_back target) (c ∷ bs)) ≡ length (c ∷ bs) → ⊥) → ⊥
    by true e rest = omega (arith, e)
    by false e rest = rest (omega (arith, e))

pub returned-lt : (target : ℕ) (bs : List (Option ℕ)) → ends_in_root bs ≡ true → count_returned target bs < length bs
returned-lt target bs h =
    let k = position_or_len (is_back target) bs in
    elim (cases_lt k (length bs)) [
      | inl low ↦
          let found : count_returned target bs ≡ k + 1 = ap (λ b. cond b (k + 1) 0) (lt-ltb k (length bs) low) in
          elim (cases_lt (k + 1) (length bs)) [
            | inl lower ↦ omega (arith, found, lower)
            | inr high ↦ absurd (not_the_root target bs h (omega (arith, high, low)))
          ]
      | inr high ↦
          let none : count_returned target bs ≡ 0 = ap (λ b. cond b (k + 1) 0) (le-ltb k (length bs) high) in
          omega (arith, none, rooted-positive bs h)
    ]

rooted-cons : (b : Option ℕ) (bs : List (Option ℕ)) → ends_in_root bs ≡ true → ends_in_root (b ∷ bs) ≡ true
rooted-cons b [] h = absurd (false≢true h)
rooted-cons b (c ∷ bs) h = h

rooted-drop : (n : ℕ) (bs : List (Option ℕ)) → n < length bs → ends_in_root bs ≡ true → ends_in_root (drop n bs) ≡ true
rooted-drop zero bs low h = h
rooted-drop (suc n) [] low h = absurd (false≢true h)
rooted-drop (suc n) (b ∷ []) low h = absurd (omega (arith, low))
rooted-drop (suc n) (b ∷ c ∷ bs) low h = rooted-drop n (c ∷ bs) (omega (arith, low)) h

abbrev IsRooted : List Event → ℕ → Type 0
IsRooted past t = is_live past t ≡ true → ends_in_root (backs (open_calls past t)) ≡ true

pub of_thread : (o : Option ℕ) (t : ℕ) → (o ≡ Some t) ⊎ (o ≢ Some t)
of_thread None t = inr (λ e. cc)
of_thread (Some a) t = elim (cases_eq a t) [ inl e ↦ inl (ap (λ n. Some n) e) | inr n ↦ inr (λ e. n (same_thread a t e)) ]

-- after an event of the thread
own_rooted : (e : Event) (past : List Event) (t : ℕ) → IsWellFormed (e ∷ past) → thread_of e ≡ Some t → IsRooted past t → IsRooted (e ∷ past) t
own_rooted (Start a entry) past t formed own before live =
    let here : eqb a t ≡ true = eq-eqb a t (same_thread a t own) in
    let none = (unstarted past t formed.2 (omega (arith, formed.0, same_thread a t own))).calls in
    ap (λ b. ends_in_root (backs (cond b (record { at = length past; entry = entry; back = None } ∷ []) [] ++ open_calls past t))) here
    ∙ ap (λ calls. ends_in_root (None ∷ backs calls)) none
own_rooted (Call a entry back) past t formed own before live =
    let here : eqb a t ≡ true = eq-eqb a t (same_thread a t own) in
    ap (λ b. ends_in_root (backs (cond b (record { at = length past; entry = entry; back = Some back } ∷ []) [] ++ open_calls past t))) here
    ∙ rooted-cons (Some back) (backs (open_calls past t)) (before live)
own_rooted (Ret a target) past t formed own before live =
    let here : eqb a t ≡ true = eq-eqb a t (same_thread a t own) in
    let bs = backs (open_calls past t) in
    let n = count_returned target bs in
    ap (λ b. ends_in_root (backs (drop (cond b n 0) (open_calls past t)))) here
    ∙ sym (ap ends_in_root (drop-map (λ (x : Activation). x.back) n (open_calls past t)))
    ∙ rooted-drop n bs (returned-lt target bs (before live)) (before live)
own_rooted (End a) past t formed own before live =
    let here : eqb t a ≡ true = eq-eqb t a (sym (same_thread a t own)) in
    absurd (false≢true (sym (ap (λ b. not b && is_live past t) here) ∙ live))
own_rooted e past t formed own before live = before live

pub rooted : (past : List Event) (t : ℕ) → IsWellFormed past → IsRooted past t
rooted [] t formed live = absurd (false≢true live)
rooted (e ∷ past) t formed live =
    elim (of_thread (thread_of e) t) [
      | inl own ↦ own_rooted e past t formed own (rooted past t formed.2) live
      | inr other ↦
          let a = apart e t other in
          ap (λ calls. ends_in_root (backs calls)) (open_calls-apart e past t a) ∙ rooted past t formed.2 (sym (a.lives past) ∙ live)
    ]
