-- Calls and starts of a profiler.
use Rattle.std.proofs.Common.{◌≡◌, ℕ, ◌+◌, ◌*◌, ◌<◌, Bool, true, false, cond, length, List, [], ◌∷◌, ◌++◌, refl, sym, ap, subst, ◌∙◌, Some, arith}
use Rattle.std.specs.Prelude.{All, Option, is_some, nat_lt, reverse}
use Rattle.std.proofs.lemmas.Bool.Decides.{nat_tests}
use Rattle.stamp_renumber.proofs.Changed.{unchanged}
use Rattle.stamp_renumber.specs.declared.ticks.Ticked.{Ticked}
use Rattle.stamp_renumber.specs.Threads.{all_starts}
use Rattle.shadow_core.proofs.Advanced.{advanced, clock_after}
use Rattle.std.specs.Option.{option_map_or}
use Rattle.std.proofs.lemmas.List.{reverse-reverse}
use Rattle.std.proofs.lemmas.List.Elements.{All-cons, All-nil, All-weaker}
use Rattle.guest_words.specs.ByThread.{value_of, with_value}
use Rattle.trace_model.specs.declared.event_kinds.Event.{Event}
use Rattle.trace_model.specs.declared.event_kinds.Event.TheVariants.{Call}
use Rattle.trace_model.specs.Observing.{MayTake}
use Rattle.shadow_stack.specs.Frames.{Frame, new_frame, starts_of}
use Rattle.shadow_pages.specs.Pages.{Page, stamp_at}
use Rattle.call_tracker.specs.ThreadCalls.{Calls}
use Rattle.stamp_renumber.specs.Threads.{HasRoom, Live, Stamped, calls_of, frames_of, pages_of, spare_of, stamped}
use Rattle.stamp_table.specs.Laws.{IsFresh}
use Rattle.stamp_table.specs.Renewal.{bounded_tick}
use Rattle.stamp_table.specs.Stands.{Agrees, IsFalling}
use Rattle.stamp_table.specs.Ticks.{table_after}
use Rattle.shadow_core.specs.State.{State, table_of_state}
use Rattle.shadow_core.specs.Private.StateRows.{Has}
use Rattle.shadow_core.specs.Profiling.{Clock, IsAdvanced, StandsFor, with_clock}
use Rattle.shadow_core.proofs.Accessed.{its_calls, its_frames, its_pages}
use Rattle.shadow_core.proofs.Profiled.{MayAdvance, has_after, may_advance}
use Rattle.shadow_core.proofs.ReadEvents.{may_same}
use Rattle.shadow_core.proofs.Reading.{All-reverse, starts_reverse}
use Rattle.stamp_table.proofs.Renewed.{bounded_tick_is_tick}
use Rattle.shadow_core.proofs.StateEvents.{event_is_made, stamped_is_there}
use Rattle.shadow_core.proofs.StateRows.{calls_by_parts}
use Rattle.shadow_core.proofs.StateTold.{room_is_not_told, thread_is_told}

-- the thread has room for one more frame and its call, and nothing else changed
pub record IsRoomy (old : Live) (t : ℕ) (new : Live) : Type 0 where
  pub threads : new.threads ≡ with_value old.threads t (stamped new.threads t (frames_of old.threads t) (pages_of old.threads t))
  pub list : (calls_of new.threads t).list ≡ (calls_of old.threads t).list
  pub counts : (calls_of new.threads t).counts ≡ (calls_of old.threads t).counts

-- the thread as it then is
abbrev roomy_thread : Live → ℕ → Live → Stamped
roomy_thread old t new = stamped new.threads t (frames_of old.threads t) (pages_of old.threads t)

pub frame_room : (s : State) (t : ℕ) (was : Stamped) (live : Live) → Has s t was → IsRoomy s.live t live → table_of_state (record s { live = live }) ≡ table_of_state s
frame_room s t was live has roomy =
    let own = its_calls s.live.threads t was has.stamps in
    room_is_not_told s t live was (roomy_thread s.live t live) has.stamps roomy.threads
    (its_frames s.live.threads t was has.stamps) (λ l. ap (λ (ps : List Page). stamp_at ps l) (its_pages s.live.threads t was has.stamps))
    (roomy.list ∙ ap (λ (k : Calls). k.list) own) (roomy.counts ∙ ap (λ (k : Calls). k.counts) own)

-- ---- After the tick.
-- the clock where the thread has room
abbrev pub clock_with : State → Live → Clock
clock_with s live = record { counter = s.counter; writes = s.writes; live = live; renumbered = s.renumbered }

all_below : (limit : ℕ) (ss : List ℕ) → IsFalling limit ss → All (λ r. r < limit) ss
all_below limit [] falling = All-nil (λ r. r < limit)
all_below limit (s ∷ ss) falling =
    All-cons (λ r. r < limit) s ss falling.1
    (All-weaker (λ r. r < s) (λ r. r < limit) (λ r low. let high = falling.1 in omega arith) ss (all_below s ss falling.2))

-- all starts of the thread are below the counter
pub starts_below : (s : State) (t : ℕ) (is : Stamped) → IsFresh (table_of_state s) → Has s t is → All (λ r. r < s.counter) (starts_of (frames_of s.live.threads t))
starts_below s t is fresh has =
    let fs = is.frames in
    let falling = (fresh.above t _ (thread_is_told s t is has)).starts in
    let turned : All (λ r. r < s.counter) (reverse (starts_of fs)) = subst (All (λ r. r < s.counter)) (starts_reverse fs) (all_below s.counter (starts_of (reverse fs)) falling) in
    subst (λ (gs : List Frame). All (λ r. r < s.counter) (starts_of gs)) (sym (its_frames s.live.threads t is has.stamps))
    (subst (All (λ r. r < s.counter)) (reverse-reverse (starts_of fs)) (All-reverse (λ r. r < s.counter) (reverse (starts_of fs)) turned))

module _ (most t : ℕ) (s : State) (was : Stamped) (more : Live) (new : Clock) (has : Has s t was) (roomy : IsRoomy s.live t more) (step : IsAdvanced most true (clock_with s more) new) where
  abbrev large : State
  large = record s { live = more }

  abbrev roomed : Stamped
  roomed = roomy_thread s.live t more

  -- the thread after the tick
  here : (is : Stamped) × Has (with_clock new large) t is × (is.calls ≡ roomed.calls)
  here = has_after most true large t roomed (clock_with s more) new step refl (stamped_is_there s more t was roomed has roomy.threads)

  ticked : table_of_state (with_clock new large) ≡ bounded_tick most (table_of_state s)
  ticked = step.table large ∙ ap (bounded_tick most) (frame_room s t was more has roomy)

  pub begin_lives : is_some (value_of new.live.threads t) ≡ true
  begin_lives = ap is_some here.1.stamps

  -- so a new frame is inside all of them
  pub begin_fits : (past : List Event) → Agrees (table_of_state s) past → All (λ r. r < new.counter) (starts_of (frames_of new.live.threads t))
  begin_fits past agrees =
      starts_below (with_clock new large) t here.0 (subst IsFresh (sym ticked) ((bounded_tick_is_tick most).fresh (table_of_state s) past agrees)) here.1

  -- and there is room for it
  pub begin_room : HasRoom more t → HasRoom new.live t
  begin_room room =
      let found = step.each t roomed (stamped_is_there s more t was roomed has roomy.threads).stamps in
      let spare : spare_of new.live.threads t ≡ spare_of more.threads t = ap (λ (o : Option Stamped). option_map_or (λ (x : Stamped). x.spare) o 0) found.1 ∙ found.2.spare in
      (omega (arith, room.0, spare), omega (arith, room.1, step.marks))

  pub called : (entry back start : ℕ) (live : Live) → start ≡ new.counter →
      live.threads ≡ with_value new.live.threads t (stamped live.threads t (frames_of new.live.threads t ++ new_frame start ∷ []) (pages_of new.live.threads t)) →
      (calls_of live.threads t).list ≡ record { entry = entry; back = Some back; earlier = (calls_of new.live.threads t).counts } ∷ (calls_of new.live.threads t).list →
      (calls_of live.threads t).counts ≡ (calls_of new.live.threads t).counts →
      table_of_state (record (with_clock new s) { live = live; weight = s.weight + 1 }) ≡ table_after (bounded_tick most) (Call t entry back) (table_of_state s)
  called entry back start live begins pushed list counts =
      let now = with_clock new large in
      let threads = new.live.threads in
      let is = stamped live.threads t (frames_of threads t ++ new_frame start ∷ []) (pages_of threads t) in
      let frames : is.frames ≡ here.0.frames ++ new_frame new.counter ∷ [] = (λ i. its_frames threads t here.0 here.1.stamps i ++ new_frame (begins i) ∷ []) in
      let own = its_calls threads t here.0 here.1.stamps in
      event_is_made most (Call t entry back) s now (record now { live = live }) ticked
      (calls_by_parts now t entry back live here.0 is here.1 pushed frames (its_pages threads t here.0 here.1.stamps)
      (list ∙ ap (λ (k : Calls). record { entry = entry; back = Some back; earlier = k.counts } ∷ k.list) own)
      (counts ∙ ap (λ (k : Calls). k.counts) own))

-- the tick may come where the thread has room
pub advance_with_room : (most : ℕ) (e : Event) (t : ℕ) (s now : State) (was : Stamped) (more : Live) → s ≡ now → MayTake (StandsFor most) now e → Has s t was →
    IsRoomy s.live t more → MayAdvance most e (record s { live = more })
advance_with_room most e t s now was more is may has roomy =
    may_advance most e (record s { live = more })
    (may_same most e s (record s { live = more }) (frame_room s t was more has roomy) (subst (λ (k : State). MayTake (StandsFor most) k e) (sym is) may))

-- ---- Where there is room, and the counter is not at its end.
module _ (most : ℕ) (e : Event) (t : ℕ) (s now : State) (was : Stamped) (is : s ≡ now) (may : MayTake (StandsFor most) now e) (has : Has s t was) (low : s.counter < most) where
  pub has_it : IsRoomy s.live t s.live
  has_it = record { threads = unchanged s.live.threads t (ap is_some has.stamps); list = refl; counts = refl }

  -- the counter went on by one
  abbrev pub clock_on : Clock
  clock_on = record { counter = s.counter + 1; writes = s.writes; live = s.live; renumbered = s.renumbered }

  clock_is : clock_after most (clock_with s s.live) s.live s.writes ≡ clock_on
  clock_is =
      let under : nat_lt s.counter most ≡ true = grind (arith, nat_tests, low) in
      ap (λ (b : Bool). let answer = cond {A = Ticked} b (record { counter = s.counter + 1; renewed = false }) (record { counter = 3 * length (all_starts s.live.threads) + 3; renewed = true }) in
      record { counter = answer.counter; writes = s.writes; live = s.live; renumbered = s.renumbered + cond answer.renewed 1 0 }) under
      ∙ ap (λ n. record clock_on { renumbered = n }) (omega arith)

  pub goes_on : IsAdvanced most true (clock_with s s.live) clock_on
  goes_on =
      let can = advance_with_room most e t s now was s.live is may has has_it in
      subst (IsAdvanced most true (clock_with s s.live)) clock_is
      (advanced most (clock_with s s.live) s.live s.writes can.within can.room can.rising (λ below. (refl, refl)) (λ top. absurd (omega (arith, top, low))))
