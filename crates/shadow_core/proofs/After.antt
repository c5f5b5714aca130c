-- Steps of the thread that made the last one, and an event after them.
use Rattle.std.proofs.Common.{◌≡◌, ◌≤◌, ◌<◌, ◌+◌, ◌*◌, ◌^◌, ◌∙◌, ℕ, All, false, List, [], ◌∷◌, Some, length, ap, arith, refl, subst, sym}
use Rattle.std.specs.Prelude.{nat_lt}
use Rattle.guest_words.specs.ByThread.{value_of}
use Rattle.call_tracker.specs.ThreadCalls.{Calls, Counts}
use Rattle.shadow_stack.specs.Frames.{FitsPop, Frame, starts_of}
use Rattle.trace_model.specs.declared.event_kinds.Event.TheVariants.{Call, Ret, Step}
use Rattle.trace_model.specs.declared.event_kinds.Event.{Event}
use Rattle.trace_model.specs.declared.slow_profile.Done.{Done}
use Rattle.trace_model.specs.Depth.{is_within}
use Rattle.trace_model.specs.Observing.{MayStepBy, MayTake, MayTakeAfter, with_steps}
use Rattle.stamp_renumber.specs.Counted.{steps_added, with_calls}
use Rattle.stamp_renumber.specs.declared.thread_stamps.EndedCall.{EndedCall}
use Rattle.stamp_renumber.specs.declared.thread_stamps.Returned.TheVariants.{One}
use Rattle.stamp_renumber.specs.Begun.{IsBegun}
use Rattle.stamp_renumber.specs.Returned.{IsReturned}
use Rattle.stamp_renumber.specs.Threads.{Live, Stamped, all_starts, calls_of, frames_of, pages_of, spare_of}
use Rattle.stamp_renumber.proofs.Changed.{starts-with}
use Rattle.stamp_table.specs.Allows.{is_too_deep}
use Rattle.stamp_table.specs.Records.{finished, record_of}
use Rattle.stamp_table.specs.Renewal.{bounded_tick}
use Rattle.stamp_table.specs.Ticks.{table_after, table_after_steps}
use Rattle.shadow_pages.specs.Pages.{HasPlace, Page, covers, stamp_at}
use Rattle.shadow_core.specs.Accesses.{IsAccessTo}
use Rattle.shadow_core.specs.Applying.{IsTaken}
use Rattle.shadow_core.specs.Private.Ending.{IsEnded}
use Rattle.shadow_core.specs.Profiling.{StandsFor}
use Rattle.shadow_core.specs.State.{State, stepped, table_of_state}
use Rattle.shadow_core.proofs.Accessed.{its_calls, its_frames, its_pages}
use Rattle.shadow_core.proofs.Applied.{deep_by_frames, frames_fit, taken}
use Rattle.shadow_core.proofs.Begun.{begin_fits, called, goes_on, has_it}
use Rattle.shadow_core.proofs.Ended.{MayEnd, may_end, may_pop, recorded, returned}
use Rattle.shadow_core.proofs.Popped.{one_ended}
use Rattle.shadow_core.proofs.Profiled.{IsAlive, alive_for_step, alive_here, lives_here}
use Rattle.shadow_core.proofs.SamePages.{calls_alike, with_alike}
use Rattle.shadow_core.proofs.Stepped.{by_steps, may_step_once, steps_fit, steps_made, value_there}

module _ (most t n : ℕ) (e : Event) (s : State) (may : MayTakeAfter (StandsFor most) (is_within most) s t n e) where
  pub may_step : MayStepBy (StandsFor most) (is_within most) s t n
  may_step = record { past = may.past; now = may.now; fitting = may.fitting; formed = may.formed.2 }

  pub alive_after : 1 ≤ n → IsAlive s t
  alive_after some = alive_for_step most t s (may_step_once most t n s may_step some)

  -- after the steps
  module _ (mid : State) (made : table_of_state mid ≡ table_after_steps (bounded_tick most) t n (table_of_state s)) where
    pub may_then : MayTake (StandsFor most) mid e
    may_then = record { past = with_steps t n may.past; now = by_steps most t n s mid may_step made may.past may.now; formed = may.formed }

    pub taken_after : (new : State) (after : List Done) → ((past : List Event) → StandsFor most mid past → is_too_deep most e past ≡ false) →
        table_of_state new ≡ table_after (bounded_tick most) e (table_of_state mid) → after ≡ finished e (table_of_state mid) →
        (past : List Event) → StandsFor most s past → IsTaken most e (with_steps t n past) new [] after
    taken_after new after shallow next recorded past stands =
        let middle = by_steps most t n s mid may_step made past stands in
        taken most e (with_steps t n past) mid new [] after may_then middle (shallow (with_steps t n past) middle) next recorded

-- ---- The thread that made them, which is alive.
module _ (t n : ℕ) (s : State) (a : IsAlive s t) where
  abbrev pub grown : Stamped
  grown = record {
    frames = frames_of s.live.threads t;
    spare = spare_of s.live.threads t;
    pages = pages_of s.live.threads t;
    calls = steps_added n (calls_of s.live.threads t);
  }

  there : value_of (stepped t n s).live.threads t ≡ Some grown
  there = value_there s.live.threads t grown a.was a.has.stamps

  pub pages_kept : pages_of (stepped t n s).live.threads t ≡ pages_of s.live.threads t
  pages_kept = its_pages (stepped t n s).live.threads t grown there

  pub frames_kept : frames_of (stepped t n s).live.threads t ≡ frames_of s.live.threads t
  frames_kept = its_frames (stepped t n s).live.threads t grown there

  pub calls_grown : calls_of (stepped t n s).live.threads t ≡ steps_added n (calls_of s.live.threads t)
  calls_grown = its_calls (stepped t n s).live.threads t grown there

  -- there are as many frames
  pub as_many : length (all_starts (stepped t n s).live.threads) ≡ length (all_starts s.live.threads)
  as_many =
      let same = ap (λ (fs : List Frame). length fs) (its_frames s.live.threads t a.was a.has.stamps) in
      omega (arith, starts-with s.live.threads t a.was grown a.has.stamps, same)

-- its access to a word is kept where it was
pub access_then : (t n : ℕ) (s mid : State) → IsAlive s t → mid ≡ stepped t n s → (w place stamp : ℕ) → IsAccessTo s t w place stamp →
    HasPlace (pages_of mid.live.threads t) w place × (stamp ≡ stamp_at (pages_of mid.live.threads t) w)
access_then t n s mid a made w place stamp access =
    let same : pages_of mid.live.threads t ≡ pages_of s.live.threads t = ap (λ (k : State). pages_of k.live.threads t) made ∙ pages_kept t n s a in
    (subst (λ (pages : List Page). HasPlace pages w place) (sym same) access.here, access.own ∙ sym (ap (λ (pages : List Page). stamp_at pages w) same))

-- ---- Where the thread made the last step.
module _ (most t n : ℕ) (e : Event) (s : State) (may : MayTakeAfter (StandsFor most) (is_within most) s t n e) (some : 1 ≤ n) (runs : s.last ≡ Some t) where
  pub mid_made : table_of_state (stepped t n s) ≡ table_after_steps (bounded_tick most) t n (table_of_state s)
  mid_made =
      steps_made most t n s s (with_calls s.live t (steps_added n (calls_of s.live.threads t))) (s.weight + n) refl (may_step most t n e s may) some runs refl refl

  pub mid_may : MayTake (StandsFor most) (stepped t n s) e
  mid_may = may_then most t n e s may (stepped t n s) mid_made

  -- what is counted fits
  pub counts_fit : ((calls_of s.live.threads t).counts.steps + n < 2 ^ 64) × (s.weight + n < 2 ^ 62)
  counts_fit = steps_fit most t n s s refl (may_step most t n e s may) some

  pub starts_fit : 3 * length (all_starts s.live.threads) + 3 ≤ most
  starts_fit = frames_fit most (Step t) s (may_step_once most t n s (may_step most t n e s may) some)

-- ---- A call that renumbers nothing.
module _ (most t n entry back : ℕ) (s : State) (may : MayTakeAfter (StandsFor most) (is_within most) s t n (Call t entry back)) (some : 1 ≤ n)
    (runs : s.last ≡ Some t) (low : s.counter < most) where
  abbrev pub call : Event
  call = Call t entry back

  abbrev pub mid : State
  mid = stepped t n s

  was : IsAlive s t
  was = alive_after most t n call s may some

  can : MayTake (StandsFor most) mid call
  can = mid_may most t n call s may some runs

  is : IsAlive mid t
  is = alive_here most call t mid mid refl can can.formed.0.0

  -- the new frame is inside all of them
  pub above_all : All (λ r. r < s.counter + 1) (starts_of (frames_of s.live.threads t))
  above_all =
      subst (λ (fs : List Frame). All (λ r. r < s.counter + 1) (starts_of fs)) (frames_kept t n s was)
      (begin_fits most t mid is.was _ _ is.has (has_it most call t mid mid is.was refl can is.has low) (goes_on most call t mid mid is.was refl can is.has low) can.past can.now.agrees)

  pub call_made : (start : ℕ) (live : Live) → start ≡ s.counter + 1 → IsBegun t start entry (Some back) (with_calls s.live t (steps_added n (calls_of s.live.threads t))) live →
      table_of_state (record s { counter = s.counter + 1; live = live; weight = s.weight + n + 1 }) ≡ table_after (bounded_tick most) call (table_of_state mid)
  call_made start live begins begun =
      called most t mid is.was _ _ is.has (has_it most call t mid mid is.was refl can is.has low) (goes_on most call t mid mid is.was refl can is.has low)
      entry back start live begins begun.threads begun.list begun.counts

  -- it is not too deep
  pub call_shallow : nat_lt most (3 * (length (all_starts s.live.threads) + 2)) ≡ false →
      (past : List Event) → StandsFor most mid past → is_too_deep most call past ≡ false
  call_shallow full past stands = deep_by_frames most call mid past stands ∙ ap (λ k. nat_lt most (3 * (k + 2))) (as_many t n s was) ∙ full

-- ---- A return that ends one call.
module _ (most t n target : ℕ) (s : State) (may : MayTakeAfter (StandsFor most) (is_within most) s t n (Ret t target)) (some : 1 ≤ n) (runs : s.last ≡ Some t) where
  abbrev pub mid-2 : State
  mid-2 = stepped t n s

  there-2 : IsAlive s t
  there-2 = alive_after most t n (Ret t target) s may some

  can-2 : MayTake (StandsFor most) mid-2 (Ret t target)
  can-2 = mid_may most t n (Ret t target) s may some runs

  pub may_end_one : MayEnd mid-2 t
  may_end_one = may_end most t (Ret t target) mid-2 mid-2 refl can-2 can-2.formed.0.0

  pub calls_there : length (calls_of s.live.threads t).list ≤ length (frames_of s.live.threads t)
  calls_there =
      let list = ap (λ (k : Calls). length k.list) (calls_grown t n s there-2) in
      let frames = ap (λ (fs : List Frame). length fs) (frames_kept t n s there-2) in
      omega (arith, may_end_one.can.frames, list, frames)

  pub pops : FitsPop (frames_of s.live.threads t)
  pops = subst FitsPop (frames_kept t n s there-2) (may_pop mid-2.live t may_end_one.can)

  module _ (live : Live) (ended : EndedCall) (one : IsReturned t target mid-2.live live (One ended)) where
    abbrev pub after : List Done
    after = record_of t ended.counts ended.sums ended.call ∷ []

    ends : IsEnded t 1 mid-2.live live [] after
    ends =
        one_ended t mid-2.live live [] after ended.sums ended.call one.1.popped one.1.threads one.1.list one.1.counts
        (ap (λ (k : Counts). record_of t k ended.sums ended.call ∷ []) one.1.counted)

    pub return_made : table_of_state (record s { live = live; weight = s.weight + n + 1 }) ≡ table_after (bounded_tick most) (Ret t target) (table_of_state mid-2)
    return_made = returned t target 1 mid-2 live [] after may_end_one (sym one.0) ends most

    pub return_recorded : after ≡ finished (Ret t target) (table_of_state mid-2)
    return_recorded = recorded t target 1 mid-2 live [] after may_end_one (sym one.0) ends

    pub few_found : (ended.counts.thread < 2 ^ 62) × (ended.counts.kernel < 2 ^ 62)
    few_found =
        (omega (arith, may_end_one.can.thread, ap (λ (k : Counts). k.thread) one.1.counted), omega (arith, may_end_one.can.kernel, ap (λ (k : Counts). k.kernel) one.1.counted))

    -- and the pages of all threads hold the same words
    pub return_pages : (u w : ℕ) → covers (pages_of live.threads u) w ≡ covers (pages_of s.live.threads u) w
    return_pages u w =
        ap (λ xs. covers (pages_of xs u) w) one.1.threads
        ∙ with_alike mid-2.live.threads t _ may_end_one.can.lives (λ v. refl) u w
        ∙ calls_alike s.live mid-2.live t (steps_added n (calls_of s.live.threads t)) (lives_here s t there-2) refl u w
