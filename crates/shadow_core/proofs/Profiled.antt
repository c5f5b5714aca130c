-- What holds of a profiler that may take an event.
use Rattle.std.proofs.Common.{◌≡◌, Ok, Err, ℕ, ◌+◌, ◌*◌, ◌<◌, ◌≤◌, ◌^◌, Bool, true, false, cond, List, [], ◌∷◌, length, Some, refl, sym, ap, subst, ◌∙◌, arith}
use Rattle.std.specs.Prelude.{◌==◌, ◌&&◌, not, nat_lt, is_some, OnErr, OnOk, Result}
use Rattle.std.proofs.lemmas.Bool.Decides.{nat_tests}
use Rattle.guest_words.specs.ByThread.{IsRising, numbers, value_of}
use Rattle.trace_model.specs.declared.event_kinds.Event.{Event}
use Rattle.trace_model.specs.declared.event_kinds.Event.TheVariants.{Step}
use Rattle.trace_model.specs.Observing.{MayTake}
use Rattle.trace_model.specs.WellFormed.{is_live, last_step, weight, weight_of}
use Rattle.call_tracker.specs.ThreadCalls.{Calls}
use Rattle.stamp_renumber.specs.Counted.{steps_added, with_calls}
use Rattle.stamp_renumber.specs.Threads.{Live, Stamped, all_starts, calls_of, frames_of, pages_of, spare_of}
use Rattle.stamp_table.specs.Ticks.{is_switch, ticks, table_after}
use Rattle.stamp_table.specs.Renewal.{bounded_tick}
use Rattle.stamp_table.specs.Counting.{counter_of, renumberings}
use Rattle.stamp_table.specs.Stands.{Agrees}
use Rattle.shadow_core.specs.State.{State, as_thread, table_of_state}
use Rattle.shadow_core.specs.Private.StateRows.{Has}
use Rattle.shadow_core.specs.Profiling.{Clock, IsAdvanced, StandsFor, with_clock}
use Rattle.shadow_core.proofs.Accessed.{its_calls, its_frames, its_pages}
use Rattle.stamp_table.proofs.Counted.{room, so_far}
use Rattle.stamp_table.proofs.Room.{counts_stay_within}
use Rattle.shadow_core.proofs.StateEvents.{event_is_made}
use Rattle.shadow_core.proofs.StateRows.{steps_by_parts}
use Rattle.shadow_core.proofs.StateTold.{frames_are_told, life_is_told, numbers_are_told, thread_is_told}

-- ---- What a tick asks.
light_renewals : (most : ℕ) (past : List Event) → renumberings most past ≤ weight past
light_renewals most [] = omega arith
light_renewals most (e ∷ past) = omega (arith, light_renewals most past, some e, one (ticks e (last_step past) && not (nat_lt (counter_of most past) most)))
  where
    some : (e : Event) → 1 ≤ weight_of e
    some (Rattle.trace_model.specs.declared.event_kinds.Event.TheVariants.Read t first count) = omega arith
    some e = omega arith

    one : (b : Bool) → cond b 1 0 ≤ 1
    one true = omega arith
    one false = omega arith

-- A tick may come, and the weight of one more event fits 64 bits.
pub record MayAdvance (most : ℕ) (e : Event) (s : State) : Type 0 where
  pub within : s.counter ≤ most
  pub room : 3 * length (all_starts s.live.threads) + 3 ≤ most
  pub rising : IsRising (numbers s.live.threads)
  pub few : s.renumbered + 1 < 2 ^ 64
  pub light : s.weight + weight_of e < 2 ^ 62

pub may_advance : (most : ℕ) (e : Event) (s : State) → MayTake (StandsFor most) s e → MayAdvance most e s
may_advance most e s may =
    let agrees = may.now.agrees in
    let counted = may.now.counted in
    let light = may.formed.1 in
    record {
      within = omega (arith, counted.counter, so_far most may.past may.now.within);
      room = omega (arith, room most may.past may.now.within, counted.frames, frames_are_told s);
      rising = subst IsRising (numbers_are_told s) agrees.rising;
      few = omega (arith, counted.renumbered, light_renewals most may.past, light);
      light = omega (arith, agrees.weight, light);
    }

-- ---- The threads that live.
-- where the numbers are the same, a thread of the one list is one of the other
pub there_too : {A B : Type 0} (old : List (ℕ × A)) (new : List (ℕ × B)) → numbers new ≡ numbers old → (t : ℕ) → is_some (value_of old t) ≡ true →
    (is : B) × (value_of new t ≡ Some is)
there_too [] [] same t here = absurd (cc)
there_too (x ∷ old) [] same t here = absurd (cc)
there_too [] (y ∷ new) same t here = absurd (cc)
there_too {A} {B} (x ∷ old) (y ∷ new) same t here =
    let first : y.0 ≡ x.0 = cc in
    let rest : numbers new ≡ numbers old = cc in
    by (y.0 == t) (ap (λ n. is_some (cond (n == t) (Some x.1) (value_of old t))) first ∙ here) (λ later. there_too old new rest t later)
  where
    by : (b : Bool) → is_some (cond b (Some x.1) (value_of old t)) ≡ true → (is_some (value_of old t) ≡ true → (is : B) × (value_of new t ≡ Some is)) →
        (is : B) × (cond b (Some y.1) (value_of new t) ≡ Some is)
    by true here later = (y.1, refl)
    by false here later = later here

-- A live thread is one of the state's.
pub record IsAlive (s : State) (t : ℕ) : Type 0 where
  pub was : Stamped
  pub has : Has s t was

pub alive : (s : State) (t : ℕ) (past : List Event) → Agrees (table_of_state s) past → is_live past t ≡ true → IsAlive s t
alive s t past agrees lives =
    let live : is_some (value_of s.live.threads t) ≡ true = sym (life_is_told s t) ∙ agrees.live t ∙ lives in
    let own = there_too s.live.threads s.live.threads refl t live in
    record { was = own.0; has = record { rising = subst IsRising (numbers_are_told s) agrees.rising; stamps = own.1 } }

-- a thread of the state after a tick, with the calls that it had
pub has_after : (most : ℕ) (ticks : Bool) (s : State) (t : ℕ) (was : Stamped) (old new : Clock) → IsAdvanced most ticks old new →
    old.live ≡ s.live → Has s t was → (is : Stamped) × Has (with_clock new s) t is × (is.calls ≡ was.calls)
has_after most ticks s t was old new step same has =
    let found = step.each t was (ap (λ (l : Live). value_of l.threads t) same ∙ has.stamps) in (
      found.0,
      record {
        rising = subst IsRising (sym (step.same ∙ ap (λ (l : Live). numbers l.threads) same)) has.rising;
        stamps = found.1;
      },
      found.2.calls,
    )

-- the state's clock
abbrev pub clock_of : State → Clock
clock_of s = record { counter = s.counter; writes = s.writes; live = s.live; renumbered = s.renumbered }

-- ---- Steps.
pub few_steps : (s : State) (t : ℕ) (past : List Event) (was : Stamped) → Agrees (table_of_state s) past → weight past < 2 ^ 62 → Has s t was →
    was.calls.counts.steps + 1 < 2 ^ 64
few_steps s t past was agrees light has =
    let counts = counts_stay_within (table_of_state s) past t (as_thread was) agrees (thread_is_told s t was has) in
    omega (arith, counts.0, light)

pub step_made : (most t : ℕ) (s : State) (was : Stamped) (live : Live) (new : Clock) → Has s t was → IsAdvanced most (is_switch s.last t) (clock_of s) new →
    live ≡ with_calls new.live t (steps_added 1 (calls_of new.live.threads t)) →
    table_of_state (record (with_clock new s) { live = live; last = Some t; weight = s.weight + 1 })
    ≡ table_after (bounded_tick most) (Step t) (table_of_state s)
step_made most t s was live new has step counted =
    let now = with_clock new s in
    let here = has_after most (is_switch s.last t) s t was (clock_of s) new step refl has in
    let threads = new.live.threads in
    let after = steps_added 1 (calls_of threads t) in
    let is : Stamped = record { frames = frames_of threads t; spare = spare_of threads t; pages = pages_of threads t; calls = after } in
    let own = its_calls threads t here.0 here.1.stamps in
    event_is_made most (Step t) s now (record now { live = live; last = Some t }) (step.table s)
    (steps_by_parts now t live here.0 is here.1 (ap (λ (l : Live). l.threads) counted) (its_frames threads t here.0 here.1.stamps) (its_pages threads t here.0 here.1.stamps)
    (ap (λ (k : Calls). k.list) (ap (steps_added 1) own)) (ap (λ (k : Calls). k.counts) (ap (steps_added 1) own)))

-- ---- What the code finds.
pub alive_for_step : (most t : ℕ) (s : State) → MayTake (StandsFor most) s (Step t) → IsAlive s t
alive_for_step most t s may = alive s t may.past may.now.agrees may.formed.0

-- the thread lives after a tick
pub lives_after : (most t : ℕ) (ticks : Bool) (s : State) (new : Clock) → MayTake (StandsFor most) s (Step t) → IsAdvanced most ticks (clock_of s) new →
    is_some (value_of new.live.threads t) ≡ true
lives_after most t b s new may step =
    let a = alive_for_step most t s may in
    let here = has_after most b s t a.was (clock_of s) new step refl a.has in
    ap is_some here.1.stamps

-- and a step more can be counted
pub step_fits : (most t : ℕ) (ticks : Bool) (s : State) (new : Clock) → MayTake (StandsFor most) s (Step t) → IsAdvanced most ticks (clock_of s) new →
    (calls_of new.live.threads t).counts.steps + 1 < 2 ^ 64
step_fits most t b s new may step =
    let a = alive_for_step most t s may in
    let here = has_after most b s t a.was (clock_of s) new step refl a.has in
    let own : calls_of new.live.threads t ≡ a.was.calls = its_calls new.live.threads t here.0 here.1.stamps ∙ here.2 in
    let few = few_steps s t may.past a.was may.now.agrees (omega (arith, may.formed.1)) a.has in
    omega (arith, few, ap (λ (k : Calls). k.counts.steps) own)

pub stepped : (most t : ℕ) (ticks : Bool) (s : State) (live : Live) (new : Clock) → MayTake (StandsFor most) s (Step t) →
    ticks ≡ is_switch s.last t → IsAdvanced most ticks (clock_of s) new → live ≡ with_calls new.live t (steps_added 1 (calls_of new.live.threads t)) →
    table_of_state (record (with_clock new s) { live = live; last = Some t; weight = s.weight + 1 })
    ≡ table_after (bounded_tick most) (Step t) (table_of_state s)
stepped most t b s live new may is step counted =
    let a = alive_for_step most t s may in
    step_made most t s a.was live new a.has (subst (λ (b : Bool). IsAdvanced most b (clock_of s) new) is step) counted

pub no_switch : (t : ℕ) → is_switch (Some t) t ≡ false
no_switch t = grind (arith, nat_tests)

-- a tick may come, by the fields that the code has
pub advance_here : (most : ℕ) (e : Event) (s now : State) → s ≡ now → MayTake (StandsFor most) now e → MayAdvance most e s
advance_here most e s now is may = may_advance most e s (subst (λ (k : State). MayTake (StandsFor most) k e) (sym is) may)

-- a thread lives, by the fields that the code has
pub alive_here : (most : ℕ) (e : Event) (t : ℕ) (s now : State) → s ≡ now → (may : MayTake (StandsFor most) now e) → is_live may.past t ≡ true → IsAlive s t
alive_here most e t s now is may lives = alive s t may.past (subst (λ (k : State). Agrees (table_of_state k) may.past) (sym is) may.now.agrees) lives

-- and so it is one of the threads with stamps
pub lives_here : (s : State) (t : ℕ) → IsAlive s t → is_some (value_of s.live.threads t) ≡ true
lives_here s t a = ap is_some a.has.stamps

-- what holds anyway holds where a call was refused
pub on_err : {T E X : Type 0} (r : Result T E) → X → OnErr r X
on_err (Ok v) x = tt
on_err (Err e) x = x

pub on_ok : {T E X : Type 0} (r : Result T E) → X → OnOk r X
on_ok (Ok v) x = x
on_ok (Err e) x = tt
