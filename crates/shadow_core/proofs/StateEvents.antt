-- Whole events, by the state's parts.
use Rattle.std.proofs.Common.{◌≡◌, ℕ, Bool, true, false, cond, List, [], ◌∷◌, Some, refl, sym, ap, subst, ◌∙◌}
use Rattle.std.specs.Prelude.{◌==◌}
use Rattle.guest_words.specs.ByThread.{IsRising, numbers, value_of, with_value}
use Rattle.guest_words.proofs.ThreadTables.{numbers-with, value_of-with}
use Rattle.stamp_renumber.specs.Threads.{Stamped}
use Rattle.stamp_table.specs.Table.{event_after}
use Rattle.stamp_table.specs.Renewal.{bounded_tick}
use Rattle.shadow_core.specs.State.{table_of_state}
use Rattle.shadow_core.specs.Private.StateEvents.{NoTickIsMade, EventIsMade, StampedIsThere, LastChangeCounts}
use Rattle.shadow_core.proofs.StateRows.{weighs_by_parts}
use Rattle.shadow_core.proofs.StateThreads.{own_test}

pub no_tick_is_made : NoTickIsMade
no_tick_is_made most e s asked = sym (ap (λ b. cond b (bounded_tick most (table_of_state s)) (table_of_state s)) asked)

pub event_is_made : EventIsMade
event_is_made most e s now new at changes = weighs_by_parts e now new changes ∙ ap (event_after e) at

-- a thread of the one list is one of the other
pub still_there : (old new : List (ℕ × Stamped)) → numbers new ≡ numbers old → (t : ℕ) (was : Stamped) → value_of old t ≡ Some was → (is : Stamped) × (value_of new t ≡ Some is)
still_there [] [] same t was here = absurd (cc)
still_there (x ∷ old) [] same t was here = absurd (cc)
still_there [] (y ∷ new) same t was here = absurd (cc)
still_there (x ∷ old) (y ∷ new) same t was here =
    let first : y.0 ≡ x.0 = cc in
    let rest : numbers new ≡ numbers old = cc in
    by (y.0 == t) (ap (λ n. cond (n == t) (Some x.1) (value_of old t)) first ∙ here) (λ later. still_there old new rest t was later)
  where
    by : (b : Bool) → cond b (Some x.1) (value_of old t) ≡ Some was → (value_of old t ≡ Some was → (is : Stamped) × (value_of new t ≡ Some is)) →
        (is : Stamped) × (cond b (Some y.1) (value_of new t) ≡ Some is)
    by true here later = (y.1, refl)
    by false here later = later here

pub stamped_value : (live : List (ℕ × Stamped)) (t : ℕ) (was is : Stamped) → value_of live t ≡ Some was → value_of (with_value live t is) t ≡ Some is
stamped_value live t was is found = value_of-with live t is was found t ∙ own_test t (Some is) (value_of live t)

pub stamped_is_there : StampedIsThere
stamped_is_there s live t was is h threads = record {
  rising = subst IsRising (sym (ap numbers threads ∙ numbers-with s.live.threads t is)) h.rising;
  stamps = ap (λ (xs : List (ℕ × Stamped)). value_of xs t) threads ∙ stamped_value s.live.threads t was is h.stamps;
}

pub last_change_counts : LastChangeCounts
last_change_counts [] t was is = refl
last_change_counts (x ∷ live) t was is = by (x.0 == t) refl (last_change_counts live t was is)
  where
    by : (b : Bool) → (x.0 == t) ≡ b → with_value (with_value live t was) t is ≡ with_value live t is →
        with_value (cond b ((x.0, was) ∷ live) (x ∷ with_value live t was)) t is ≡ cond b ((x.0, is) ∷ live) (x ∷ with_value live t is)
    by true same later = ap (λ b. cond b ((x.0, is) ∷ live) ((x.0, was) ∷ with_value live t is)) same
    by false same later =
        ap (λ b. cond b ((x.0, is) ∷ with_value live t was) (x ∷ with_value (with_value live t was) t is)) same ∙ ap (λ (xs : List (ℕ × Stamped)). x ∷ xs) later
