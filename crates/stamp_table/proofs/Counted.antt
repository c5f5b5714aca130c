-- Frames, the counter and the renumberings are counted as the trace says.
use Rattle.std.proofs.Common.{inl, inr, ◌≡◌, ℕ, ◌+◌, ◌-◌, ◌*◌, ◌≤◌, Bool, true, false, not, cond, eqb, ltb, ◌&&◌, ◌||◌, List, [], ◌∷◌, length, drop, map, Option, Some, None, refl, sym, ap, ◌∙◌, arith}
use Rattle.std.specs.Prelude.{is_some}
use Rattle.std.proofs.lemmas.Bool.{cond-true, eq-eqb, leb-true, ltb-true, and_parts, false≢true}
use Rattle.std.proofs.lemmas.Bool.Decides.{nat_tests}
use Rattle.std.proofs.lemmas.List.{length-append, length-drop, length-take, length-map, drop_all}
use Rattle.guest_words.specs.ByThread.{value_of}
use Rattle.trace_model.specs.declared.event_kinds.Event.{Event}
use Rattle.trace_model.specs.declared.event_kinds.Event.TheVariants.{Step, Read, Write, Fill, Call, Ret, Start, End}
use Rattle.trace_model.specs.declared.activations.Activation.{Activation}
use Rattle.trace_model.specs.Events.{thread_of}
use Rattle.trace_model.specs.Activations.{open_calls, ending_calls, begun, backs, count_ending}
use Rattle.trace_model.specs.WellFormed.{is_live, last_step, IsWellFormed}
use Rattle.trace_model.specs.Depth.{pending, count_begun, count_ended, is_within}
use Rattle.trace_model.proofs.Pending.{open_calls-le-pending}
use Rattle.stamp_renumber.specs.Classes.{new_start}
use Rattle.shadow_stack.specs.Frames.{Frame, starts_of}
use Rattle.stamp_table.specs.Table.{Thread, Table, event_after}
use Rattle.stamp_table.specs.Ticks.{table_at, ticks}
use Rattle.stamp_table.specs.Renewal.{all_starts, renewed_thread, renewed, plain_tick, bounded_tick}
use Rattle.stamp_table.specs.Counting.{next_counter, counter_of}
use Rattle.stamp_table.specs.Stands.{Agrees}
use Rattle.stamp_table.specs.Laws.{CounterFits, IsFresh}
use Rattle.stamp_table.proofs.Events.{apart, open_calls-apart}
use Rattle.stamp_table.proofs.Past.{of_thread, same_thread}
use Rattle.stamp_table.proofs.Threads.{frame_count, frames_of, count-cons}
use Rattle.stamp_table.proofs.There.{zip-length}
use Rattle.stamp_table.proofs.Own.{change}
use Rattle.stamp_table.proofs.Whole.{event_agrees, of_none}

-- ---- a thread that does not live has no open activation
own_closed : (e : Event) (past : List Event) (t : ℕ) → IsWellFormed (e ∷ past) → thread_of e ≡ Some t → is_live (e ∷ past) t ≡ false → open_calls (e ∷ past) t ≡ []
own_closed e past t formed own dead = at e own formed dead
  where
    lives : (a : ℕ) → Some a ≡ Some t → is_live past a ≡ true → is_live past t ≡ true
    lives a own live = sym (ap (is_live past) (same_thread a t own)) ∙ live

    at : (e : Event) → thread_of e ≡ Some t → IsWellFormed (e ∷ past) → is_live (e ∷ past) t ≡ false → open_calls (e ∷ past) t ≡ []
    at (Step a) own formed dead = absurd (false≢true (sym dead ∙ lives a own formed.0))
    at (Read a first count) own formed dead = absurd (false≢true (sym dead ∙ lives a own formed.0.0.0))
    at (Write a first count) own formed dead = absurd (false≢true (sym dead ∙ lives a own formed.0.0.0))
    at (Fill first count) own formed dead = absurd (cc)
    at (Call a entry back) own formed dead = absurd (false≢true (sym dead ∙ lives a own formed.0.0))
    at (Ret a target) own formed dead = absurd (false≢true (sym dead ∙ lives a own formed.0.0))
    at (Start a entry) own formed dead =
        absurd (false≢true (sym dead ∙ ap (λ b. b || is_live past t) (eq-eqb t a (sym (same_thread a t own)))))
    at (End a) own formed dead =
        let calls = open_calls past t in
        ap (λ b. drop (cond b (length (backs calls)) 0) calls) (eq-eqb a t (same_thread a t own))
        ∙ drop_all (length (backs calls)) calls (omega (arith, length-map calls (λ (x : Activation). x.back)))

closed : (past : List Event) (t : ℕ) → IsWellFormed past → is_live past t ≡ false → open_calls past t ≡ []
closed [] t formed dead = refl
closed (e ∷ past) t formed dead =
    elim (of_thread (thread_of e) t) [
      | inl own ↦ own_closed e past t formed own dead
      | inr other ↦ let a = apart e t other in open_calls-apart e past t a ∙ closed past t formed.2 (sym (a.lives past) ∙ dead)
    ]

-- each thread has as many frames as open activations
depth_at : (table : Table) (past : List Event) (t : ℕ) → IsWellFormed past → Agrees table past → frames_of (value_of table.threads t) ≡ length (open_calls past t)
depth_at table past t formed s = by (value_of table.threads t) refl
  where
    by : (o : Option Thread) → value_of table.threads t ≡ o → frames_of o ≡ length (open_calls past t)
    by None found = sym (ap (length {A = Activation}) (closed past t formed (sym (s.live t) ∙ ap is_some found)))
    by (Some thread) found = zip-length _ (starts_of thread.frames) (open_calls past t) (s.threads t thread found).starts

begun_own : (e : Event) (t at : ℕ) → thread_of e ≡ Some t → length (begun e t at) ≡ count_begun e
begun_own e t at own = grind (arith, nat_tests)

calls_counted : (e : Event) (past : List Event) (t : ℕ) →
    length (open_calls (e ∷ past) t) + length (ending_calls e past t) ≡ length (open_calls past t) + length (begun e t (length past))
calls_counted e past t =
    let calls = open_calls past t in
    let n = count_ending e t (backs calls) in
    omega (arith, length-append (begun e t (length past)) (drop n calls), length-drop n calls, length-take n calls)

pub frames_after : (e : Event) (table : Table) (past : List Event) → IsWellFormed (e ∷ past) → (ticks e table.last ≡ true → IsFresh table) → Agrees table past →
    frame_count table.threads ≡ pending past → frame_count (event_after e table).threads ≡ pending (e ∷ past)
frames_after e table past formed fresh s counted = by (thread_of e) refl
  where
    none_begun : (e : Event) → thread_of e ≡ None → count_begun e ≡ 0
    none_begun e none = grind arith

    by : (o : Option ℕ) → thread_of e ≡ o → frame_count (event_after e table).threads ≡ pending (e ∷ past)
    by None is =
        omega (arith, counted, ap frame_count (of_none e table is), none_begun e is, ap (λ o. (pending past - count_ended e past o) + count_begun e) is)
    by (Some t) is =
        let c = change e t table past is formed fresh s in
        let old = depth_at table past t formed.2 s in
        let new = ap frames_of (sym (c.value t ∙ cond-true (eqb t t) c.new (value_of table.threads t) (eq-eqb t t refl)))
        ∙ depth_at (event_after e table) (e ∷ past) t formed (event_agrees e table past formed fresh s) in
        let ending = length-take (count_ending e t (backs (open_calls past t))) (open_calls past t) in
        omega (
          arith,
          c.frames,
          old,
          new,
          calls_counted e past t,
          begun_own e t (length past) is,
          open_calls-le-pending past t,
          counted,
          ending,
          ap (λ o. (pending past - count_ended e past o) + count_begun e) is,
        )

-- ---- a tick keeps the frames
count-renewed : (starts : List ℕ) (write : ℕ → ℕ) (xs : List (ℕ × Thread)) → frame_count (map (λ (x : ℕ × Thread). (x.0, renewed_thread starts write x.1)) xs) ≡ frame_count xs
count-renewed starts write [] = refl
count-renewed starts write (x ∷ xs) =
    let new = renewed_thread starts write x.1 in
    omega (
      arith,
      count-cons (x.0, new) (map (λ (x : ℕ × Thread). (x.0, renewed_thread starts write x.1)) xs),
      count-cons x xs,
      count-renewed starts write xs,
      length-map new.frames (λ (f : Frame). f.start),
      length-map x.1.frames (λ (f : Frame). record f { start = new_start starts f.start }),
      length-map x.1.frames (λ (f : Frame). f.start),
    )

module _ (most : ℕ) (e : Event) (table : Table) where
  pub ticked_frames : frame_count (table_at (bounded_tick most) e table).threads ≡ frame_count table.threads
  ticked_frames = by (ticks e table.last) (ltb table.counter most)
    where
      by : (b c : Bool) → frame_count (cond b (cond c (plain_tick table) (renewed table)) table).threads ≡ frame_count table.threads
      by false c = refl
      by true true = refl
      by true false = count-renewed (all_starts table.threads) table.write table.threads

  pub ticked_counter : (table_at (bounded_tick most) e table).counter
      ≡ cond (ticks e table.last) (next_counter most table.counter (frame_count table.threads)) table.counter
  ticked_counter = by (ticks e table.last) (ltb table.counter most)
    where
      by : (b c : Bool) → (cond b (cond c (plain_tick table) (renewed table)) table).counter
          ≡ cond b (cond c (table.counter + 1) (3 * frame_count table.threads + 3)) table.counter
      by false c = refl
      by true true = refl
      by true false = refl

  pub ticked_renumbered : (table_at (bounded_tick most) e table).renumbered ≡ table.renumbered + cond (ticks e table.last && not (ltb table.counter most)) 1 0
  ticked_renumbered = by (ticks e table.last) (ltb table.counter most)
    where
      by : (b c : Bool) → (cond b (cond c (plain_tick table) (renewed table)) table).renumbered ≡ table.renumbered + cond (b && not c) 1 0
      by false c = omega arith
      by true true = omega arith
      by true false = omega arith

pub renumbered_after : (e : Event) (table : Table) → (event_after e table).renumbered ≡ table.renumbered
renumbered_after (Step a) table = refl
renumbered_after e table = refl

-- ---- the counter fits
pub room : (most : ℕ) (past : List Event) → is_within most past ≡ true → 3 * pending past + 3 ≤ most
room most [] h = omega (arith, leb-true 3 most h)
room most (e ∷ past) h = omega (arith, leb-true (3 * (pending (e ∷ past) + 1)) most (and_parts _ _ h).0)

next_fits : (most n depth : ℕ) (b : Bool) → n ≤ most → 3 * depth + 3 ≤ most → cond b (next_counter most n depth) n ≤ most
next_fits most n depth false h k = h
next_fits most n depth true h k = by (ltb n most) refl
  where
    by : (c : Bool) → ltb n most ≡ c → cond c (n + 1) (3 * depth + 3) ≤ most
    by true e = omega (arith, ltb-true n most e)
    by false e = k

pub so_far : (most : ℕ) (past : List Event) → is_within most past ≡ true → counter_of most past ≤ most
so_far most [] h = omega arith
so_far most (e ∷ past) h =
    let k : is_within most past ≡ true = (and_parts _ _ h).1 in
    next_fits most (counter_of most past) (pending past) (ticks e (last_step past)) (so_far most past k) (room most past k)

pub counter_fits : CounterFits
counter_fits most e past h = next_fits most (counter_of most past) (pending past) (ticks e (last_step past)) (so_far most past h) (room most past h)
