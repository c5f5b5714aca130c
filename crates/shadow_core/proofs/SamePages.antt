-- The words that pages hold after an event.
use Rattle.std.proofs.Common.{◌≡◌, ℕ, Bool, true, false, cond, List, [], Option, Some, None, refl, sym, ap, subst, ◌∙◌, arith}
use Rattle.std.specs.Prelude.{is_some, ◌==◌}
use Rattle.std.specs.Option.{option_map_or}
use Rattle.std.proofs.lemmas.Bool.Decides.{nat_tests}
use Rattle.guest_words.specs.ByThread.{numbers, value_of, with_value}
use Rattle.guest_words.proofs.ThreadTables.{value_of-with}
use Rattle.shadow_stack.specs.Frames.{Frame}
use Rattle.shadow_pages.specs.Pages.{Page, covers}
use Rattle.call_tracker.specs.ThreadCalls.{Calls}
use Rattle.stamp_renumber.specs.Counted.{with_calls}
use Rattle.stamp_renumber.specs.Threads.{Live, Stamped, frames_of, pages_of, spare_of, stamped}
use Rattle.shadow_core.specs.Applying.{HasSamePages}
use Rattle.shadow_core.specs.Profiling.{Clock, IsAdvanced}
use Rattle.shadow_core.specs.Private.Reading.{IsChanged}
use Rattle.shadow_core.specs.State.{State}
use Rattle.shadow_core.proofs.Profiled.{there_too}

-- the threads' pages hold the same words
abbrev pub AlikeIn : List (ℕ × Stamped) → List (ℕ × Stamped) → Type 0
AlikeIn old new = (t w : ℕ) → covers (pages_of new t) w ≡ covers (pages_of old t) w

-- one thread has other pages, which hold the same words
pub with_alike : (xs : List (ℕ × Stamped)) (t : ℕ) (new : Stamped) → is_some (value_of xs t) ≡ true → ((w : ℕ) → covers new.pages w ≡ covers (pages_of xs t) w)
    → AlikeIn xs (with_value xs t new)
with_alike xs t new lives alike u w = found (value_of xs t) refl lives
  where
    shown : Option Stamped → Bool
    shown o = covers (option_map_or (λ (s : Stamped). s.pages) o []) w

    found : (o : Option Stamped) → value_of xs t ≡ o → is_some o ≡ true → covers (pages_of (with_value xs t new) u) w ≡ covers (pages_of xs u) w
    found None here some = absurd (cc)
    found (Some was) here some = ap shown (value_of-with xs t new was here u) ∙ by (t == u) refl
      where
        by : (b : Bool) → (t == u) ≡ b → shown (cond b (Some new) (value_of xs u)) ≡ shown (value_of xs u)
        by true is = alike w ∙ ap (λ v. shown (value_of xs v)) (let e : t ≡ u = grind (arith, nat_tests, is) in e)
        by false is = refl

-- a thread has other calls
pub calls_alike : (live now : Live) (t : ℕ) (k : Calls) → is_some (value_of live.threads t) ≡ true → now ≡ with_calls live t k → AlikeIn live.threads now.threads
calls_alike live now t k lives is u w =
    let new : Stamped = record { frames = frames_of live.threads t; spare = spare_of live.threads t; pages = pages_of live.threads t; calls = k } in
    ap (λ (l : Live). covers (pages_of l.threads u) w) is ∙ with_alike live.threads t new lives (λ w. refl) u w

-- a thread has other frames and calls, and pages that hold the same words
pub stamped_alike : (old new : List (ℕ × Stamped)) (t : ℕ) (frames : List Frame) (pages : List Page) → is_some (value_of old t) ≡ true
    → ((w : ℕ) → covers pages w ≡ covers (pages_of old t) w) → new ≡ with_value old t (stamped new t frames pages) → AlikeIn old new
stamped_alike old new t frames pages lives alike is u w =
    ap (λ xs. covers (pages_of xs u) w) is ∙ with_alike old t (stamped new t frames pages) lives alike u w

pub changed_alike : (old new : Live) (t : ℕ) (frames : List Frame) (pages : List Page) → is_some (value_of old.threads t) ≡ true → IsChanged old new t frames pages
    → ((w : ℕ) → covers pages w ≡ covers (pages_of old.threads t) w) → AlikeIn old.threads new.threads
changed_alike old new t frames pages lives changed alike = stamped_alike old.threads new.threads t frames pages lives alike changed.threads

-- a thread that is not in one of two lists of the same threads is not in the other
pub none_by : {A B : Type 0} (old : List (ℕ × A)) (new : List (ℕ × B)) → numbers new ≡ numbers old → (t : ℕ) → value_of old t ≡ None → value_of new t ≡ None
none_by {A} {B} old new same t here = by (value_of new t) refl
  where
    by : (o : Option B) → value_of new t ≡ o → value_of new t ≡ None
    by None there = there
    by (Some is) there = absurd (let was = there_too new old (sym same) t (ap is_some there) in let e = sym was.1 ∙ here in cc e)

-- the counter ticked
pub advanced_alike : (most : ℕ) (ticks : Bool) (old new : Clock) → IsAdvanced most ticks old new → AlikeIn old.live.threads new.live.threads
advanced_alike most ticks old new advanced t w = found (value_of old.live.threads t) refl
  where
    shown : Option Stamped → Bool
    shown o = covers (option_map_or (λ (s : Stamped). s.pages) o []) w

    found : (o : Option Stamped) → value_of old.live.threads t ≡ o → covers (pages_of new.live.threads t) w ≡ covers (pages_of old.live.threads t) w
    found None here = ap shown (none_by old.live.threads new.live.threads advanced.same t here) ∙ sym (ap shown here)
    found (Some was) here =
        let is = advanced.each t was here in
        ap shown is.1 ∙ is.2.covered w ∙ sym (ap shown here)

-- the state before, as it is viewed
pub seen_same : {old was new : State} → old ≡ was → HasSamePages old new → HasSamePages was new
seen_same {new = new} is same = subst (λ (k : State). HasSamePages k new) is same

-- a change of the threads alone
pub threads_alike : {old was new : State} → old ≡ was → new.writes ≡ old.writes → new.marks ≡ old.marks → AlikeIn old.live.threads new.live.threads
    → HasSamePages was new
threads_alike is writes marks alike = seen_same is (record {
  writes = λ w. ap (λ ps. covers ps w) writes;
  marks = λ w. ap (λ ps. covers ps w) marks;
  accesses = alike;
})

-- two events, one after the other
pub same_twice : {old mid new : State} → HasSamePages old mid → HasSamePages mid new → HasSamePages old new
same_twice first then = record {
  writes = λ w. then.writes w ∙ first.writes w;
  marks = λ w. then.marks w ∙ first.marks w;
  accesses = λ t w. then.accesses t w ∙ first.accesses t w;
}
