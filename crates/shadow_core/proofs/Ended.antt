-- Returns of a profiler.
use Rattle.std.proofs.Common.{◌≡◌, Bool, false, not, [], ◌∷◌, ℕ, ◌+◌, ◌-◌, ◌<◌, ◌^◌, true, List, ◌++◌, length, drop, map, refl, sym, ap, subst, ◌∙◌, arith, cond}
use Rattle.std.specs.Prelude.{◌==◌, is_some, reverse}
use Rattle.std.proofs.lemmas.List.{length-map, length-reverse}
use Rattle.guest_words.specs.ByThread.{value_of, with_value, without_thread}
use Rattle.trace_model.specs.declared.event_kinds.Event.{Event}
use Rattle.trace_model.specs.declared.event_kinds.Event.TheVariants.{End, Ret}
use Rattle.trace_model.specs.declared.activations.Activation.{Activation}
use Rattle.trace_model.specs.declared.slow_profile.Done.{Done}
use Rattle.trace_model.specs.Activations.{open_calls}
use Rattle.trace_model.specs.Observing.{MayTake}
use Rattle.trace_model.specs.WellFormed.{is_live, weight}
use Rattle.shadow_stack.specs.Frames.{FitsPop, Frame}
use Rattle.stamp_renumber.specs.Threads.{Live, Stamped, calls_of, frames_of, pages_of, stamped}
use Rattle.stamp_renumber.specs.Returned.{returned_by}
use Rattle.stamp_table.specs.Allows.{AreWithin}
use Rattle.shadow_core.specs.Private.Ending.{IsEnded}
use Rattle.stamp_table.specs.Frames.{frames_after_pops}
use Rattle.shadow_core.specs.Private.Parts.{ArePopped}
use Rattle.stamp_table.specs.Past.{call_of}
use Rattle.stamp_table.specs.Records.{finished, records}
use Rattle.stamp_table.specs.Renewal.{bounded_tick}
use Rattle.call_tracker.specs.ThreadCalls.{Calls, CountedCall}
use Rattle.stamp_table.specs.Table.{Thread}
use Rattle.stamp_table.specs.Ticks.{table_after}
use Rattle.shadow_core.specs.State.{State, as_thread, table_of_state}
use Rattle.shadow_core.specs.Private.StateRows.{Has}
use Rattle.shadow_core.specs.Profiling.{StandsFor}
use Rattle.shadow_core.proofs.Accessed.{its_calls, its_frames, its_pages}
use Rattle.shadow_core.proofs.Popped.{fits_pop, none_ended, sums_left}
use Rattle.shadow_core.proofs.Profiled.{alive}
use Rattle.shadow_core.proofs.Reading.{within_more}
use Rattle.stamp_table.proofs.Room.{counts_stay_within, pops_stay_within}
use Rattle.shadow_core.proofs.StateEvents.{event_is_made, no_tick_is_made}
use Rattle.shadow_core.proofs.StateRows.{ends_by_parts, finishes_by_parts, returns_by_parts}
use Rattle.shadow_core.proofs.StateThreads.{own_test}
use Rattle.shadow_core.proofs.StateTold.{thread_is_told}
use Rattle.stamp_table.proofs.There.{depth_is}

-- What the end of calls asks of the threads.
pub record MayEndIn (live : Live) (t : ℕ) : Type 0 where
  pub lives : is_some (value_of live.threads t) ≡ true
  pub frames : length (frames_of live.threads t) ≡ length (calls_of live.threads t).list
  pub sums : (n : ℕ) → AreWithin (2 ^ 62 - 1) (frames_after_pops n (reverse (frames_of live.threads t)))
  pub thread : (calls_of live.threads t).counts.thread < 2 ^ 62
  pub kernel : (calls_of live.threads t).counts.kernel < 2 ^ 62

pub record MayEnd (s : State) (t : ℕ) : Type 0 where
  pub was : Stamped
  pub has : Has s t was
  pub can : MayEndIn s.live t

pub may_end : (most t : ℕ) (e : Event) (s now : State) → s ≡ now → (may : MayTake (StandsFor most) now e) → is_live may.past t ≡ true → MayEnd s t
may_end most t e s now is may lives =
    let agrees = subst (λ (k : State). Rattle.stamp_table.specs.Stands.Agrees (table_of_state k) may.past) (sym is) may.now.agrees in
    let light = may.formed.1 in
    let a = alive s t may.past agrees lives in
    let fs = a.was.frames in
    let thread : Thread = as_thread a.was in
    let found = thread_is_told s t a.was a.has in
    let stands = agrees.threads t thread found in
    let had = its_frames s.live.threads t a.was a.has.stamps in
    let own = its_calls s.live.threads t a.was a.has.stamps in
    let counts = counts_stay_within (table_of_state s) may.past t thread agrees found in
    record {
      was = a.was;
      has = a.has;
      can = record {
        lives = ap is_some a.has.stamps;
        frames =
            omega (
              arith,
              ap (λ (gs : List Frame). length gs) had,
              ap (λ (k : Calls). length k.list) own,
              length-reverse fs,
              length-map (reverse fs) (λ (f : Frame). f.start),
              depth_is (table_of_state s) may.past t thread stands,
              length-map (open_calls may.past t) (λ (x : Activation). x.back),
              ap (λ (os : List CountedCall). length os) stands.calls,
              length-map (open_calls may.past t) (call_of may.past t),
            );
        sums = λ n.
            subst (λ (gs : List Frame). AreWithin (2 ^ 62 - 1) (frames_after_pops n (reverse gs))) (sym had)
            (within_more (weight may.past) (2 ^ 62 - 1) (frames_after_pops n (reverse fs)) (omega (arith, light)) (pops_stay_within (table_of_state s) may.past t n thread agrees found));
        thread = omega (arith, counts.1, light, ap (λ (k : Calls). k.counts.thread) own);
        kernel = omega (arith, counts.2, light, ap (λ (k : Calls). k.counts.kernel) own);
      };
    }

module _ (t target n : ℕ) (s : State) (live : Live) (done more : List Done) (may : MayEnd s t)
    (count : n ≡ returned_by target (calls_of s.live.threads t)) (ended : IsEnded t n s.live live done more) where
  own : calls_of s.live.threads t ≡ may.was.calls
  own = its_calls s.live.threads t may.was may.has.stamps

  popped : ArePopped may.was.frames ended.sums (frames_of live.threads t)
  popped = subst (λ (fs : List Frame). ArePopped fs ended.sums (frames_of live.threads t)) (its_frames s.live.threads t may.was may.has.stamps) ended.frames

  ending : length ended.sums ≡ cond (Rattle.std.specs.Prelude.nat_eq t t) (returned_by target may.was.calls) 0
  ending = ended.count ∙ count ∙ ap (returned_by target) own ∙ sym (own_test t (returned_by target may.was.calls) 0)

  pub returned : (most : ℕ) →
      table_of_state (record s { live = live; weight = s.weight + 1 }) ≡ table_after (bounded_tick most) (Ret t target) (table_of_state s)
  returned most =
      let is = stamped live.threads t (frames_of live.threads t) (pages_of s.live.threads t) in
      event_is_made most (Ret t target) s s (record s { live = live })
      (no_tick_is_made most (Ret t target) s refl)
      (returns_by_parts s t target live may.was is ended.sums may.has ended.threads popped (its_pages s.live.threads t may.was may.has.stamps)
      (ended.list ∙ (λ i. drop (sym ended.count i) (own i).list)) (ended.counts ∙ ap (λ (k : Calls). k.counts) own) ending)

  pub recorded : more ≡ done ++ finished (Ret t target) (table_of_state s)
  recorded =
      ended.recorded
      ∙ ap (λ (k : Calls). done ++ records t k.counts ended.sums k.list) own
      ∙ ap (λ (ds : List Done). done ++ ds) (sym (finishes_by_parts (Ret t target) s t may.was ended.sums (frames_of live.threads t) may.has popped ending))

-- a pop of the thread's frames fits
pub may_pop : (live : Live) (t : ℕ) → MayEndIn live t → FitsPop (frames_of live.threads t)
may_pop live t can = fits_pop (frames_of live.threads t) (sums_left t 0 0 live live [] [] can.lives (none_ended t live [] can.lives) can.sums)

-- ---- Threads that did not change.
pub as_before : (s old : State) → s ≡ old → (live : Live) → live ≡ s.live → record s { live = live } ≡ old
as_before s old is live same = ap (λ (l : Live). record s { live = l }) same ∙ is

pub left_as_before : (s old : State) → s ≡ old → (live : Live) → live ≡ s.live → table_of_state (record s { live = live }) ≡ table_of_state old
left_as_before s old is live same = ap (λ (l : Live). table_of_state (record s { live = l })) same ∙ ap table_of_state is

-- ---- The end of a thread.
without_changed : {X : Type 0} (xs : List (ℕ × X)) (t : ℕ) (v : X) → without_thread (with_value xs t v) t ≡ without_thread xs t
without_changed [] t v = refl
without_changed {X} (x ∷ xs) t v = by (x.0 == t) refl (without_changed xs t v)
  where
    by : (b : Bool) → (x.0 == t) ≡ b → without_thread (with_value xs t v) t ≡ without_thread xs t →
        without_thread (cond b ((x.0, v) ∷ xs) (x ∷ with_value xs t v)) t ≡ without_thread (x ∷ xs) t
    by true is later =
        ap (λ d. cond (not d) ((x.0, v) ∷ without_thread xs t) (without_thread xs t)) is ∙ sym (ap (λ d. cond (not d) (x ∷ without_thread xs t) (without_thread xs t)) is)
    by false is later =
        ap (λ d. cond (not d) (x ∷ without_thread (with_value xs t v) t) (without_thread (with_value xs t v) t)) is
        ∙ ap (λ (ys : List (ℕ × X)). x ∷ ys) later
        ∙ sym (ap (λ d. cond (not d) (x ∷ without_thread xs t) (without_thread xs t)) is)

module _ (t n : ℕ) (s : State) (live out : Live) (done more : List Done) (may : MayEnd s t) (count : n ≡ length (calls_of s.live.threads t).list)
    (ended : IsEnded t n s.live live done more) (gone : out.threads ≡ without_thread live.threads t) where
  out_of : out.threads ≡ without_thread s.live.threads t
  out_of = gone ∙ ap (λ (xs : List (ℕ × Stamped)). without_thread xs t) ended.threads ∙ without_changed s.live.threads t (stamped live.threads t (frames_of live.threads t) (pages_of s.live.threads t))

  pub thread_ended : (most : ℕ) → table_of_state (record s { live = out; weight = s.weight + 1 }) ≡ table_after (bounded_tick most) (End t) (table_of_state s)
  thread_ended most = event_is_made most (End t) s s (record s { live = out }) (no_tick_is_made most (End t) s refl) (ends_by_parts s t out out_of)

  pub all_recorded : more ≡ done ++ finished (End t) (table_of_state s)
  all_recorded =
      let own = its_calls s.live.threads t may.was may.has.stamps in
      let popped = subst (λ (fs : List Frame). ArePopped fs ended.sums (frames_of live.threads t)) (its_frames s.live.threads t may.was may.has.stamps) ended.frames in
      let backs = map (λ (o : CountedCall). o.back) may.was.calls.list in
      let ending : length ended.sums ≡ cond (Rattle.std.specs.Prelude.nat_eq t t) (length backs) 0 =
      ended.count ∙ count ∙ ap (λ (k : Calls). length k.list) own ∙ sym (length-map may.was.calls.list (λ (o : CountedCall). o.back)) ∙ sym (own_test t (length backs) 0) in
      ended.recorded
      ∙ ap (λ (k : Calls). done ++ records t k.counts ended.sums k.list) own
      ∙ ap (λ (ds : List Done). done ++ ds) (sym (finishes_by_parts (End t) s t may.was ended.sums (frames_of live.threads t) may.has popped ending))
