-- Starts of a profiler.
use Rattle.std.proofs.Common.{◌≡◌, ℕ, ◌+◌, ◌*◌, ◌/◌, ◌<◌, ◌≤◌, Bool, true, false, not, cond, ltb, List, [], ◌∷◌, ◌++◌, length, map, refl, sym, ap, subst, ◌∙◌, Some, None, arith}
use Rattle.std.specs.Prelude.{◌==◌, All, Option, is_some}
use Rattle.std.specs.Option.{option_map_or}
use Rattle.std.proofs.lemmas.Bool.Decides.{nat_tests}
use Rattle.std.proofs.lemmas.Bool.{eq-eqb}
use Rattle.std.proofs.lemmas.List.{length-append, map-append}
use Rattle.std.proofs.lemmas.List.Elements.{All-cons, All-head, All-nil, All-same, All-tail, All-weaker}
use Rattle.guest_words.specs.ByThread.{IsRising, numbers, value_of, with_value, without_thread}
use Rattle.guest_words.proofs.ThreadTables.{rising_pushed, value_of-pushed}
use Rattle.trace_model.specs.declared.event_kinds.Event.TheVariants.{Start}
use Rattle.trace_model.specs.Observing.{MayTake}
use Rattle.trace_model.specs.WellFormed.{greatest_start}
use Rattle.shadow_stack.specs.Frames.{Frame, new_frame, starts_of}
use Rattle.shadow_pages.specs.Pages.{Page, covers, page_of}
use Rattle.stamp_renumber.specs.Classes.{new_write}
use Rattle.stamp_renumber.specs.Threads.{HasRoom, Live, Stamped, calls_of, frames_of, pages_of, spare_of, stamped}
use Rattle.stamp_renumber.specs.Threads as parts
use Rattle.call_tracker.specs.ThreadCalls.{Calls, no_counts}
use Rattle.stamp_table.specs.Table.{Table, Thread}
use Rattle.stamp_table.specs.Renewal.{all_starts, bounded_tick, plain_tick, renewed, renewed_thread}
use Rattle.stamp_table.specs.Ticks.{table_after}
use Rattle.shadow_core.specs.State.{State, as_thread, as_threads, table_of_state}
use Rattle.shadow_core.specs.Profiling.{Clock, IsAdvanced, StandsFor, with_clock}
use Rattle.shadow_core.proofs.Accessed.{its_calls, its_frames, its_pages}
use Rattle.shadow_core.proofs.Begun.{clock_with}
use Rattle.shadow_core.proofs.Profiled.{MayAdvance, advance_here}
use Rattle.shadow_core.proofs.StateEvents.{event_is_made}
use Rattle.shadow_core.proofs.StateRows.{starts_by_parts}
use Rattle.shadow_core.proofs.StateThreads.{last_changes, own_test, threads_come, threads_go}
use Rattle.shadow_core.proofs.StateTold.{numbers_are_told}

-- ---- The last thread taken out.
pub without_last : {X : Type 0} (xs : List (ℕ × X)) (t : ℕ) (v : X) → All (λ n. n < t) (numbers xs) → without_thread (xs ++ (t, v) ∷ []) t ≡ xs
without_last [] t v below = ap (λ b. cond (not b) ((t, v) ∷ []) []) (eq-eqb t t refl)
without_last (x ∷ xs) t v below =
    let low : x.0 < t = All-head (λ n. n < t) x.0 (numbers xs) below in
    let apart : (x.0 == t) ≡ false = grind (arith, nat_tests, low) in
    ap (λ b. cond (not b) (x ∷ without_thread (xs ++ (t, v) ∷ []) t) (without_thread (xs ++ (t, v) ∷ []) t)) apart
    ∙ ap (λ ys. x ∷ ys) (without_last xs t v (All-tail (λ n. n < t) x.0 (numbers xs) below))

-- where the numbers are those of a list with the thread behind, its change is the last of the list
pub record IsLast {X : Type 0} (xs : List (ℕ × X)) (t : ℕ) : Type 0 where
  pub change : (v : X) → with_value xs t v ≡ without_thread xs t ++ (t, v) ∷ []
  pub below : All (λ n. n < t) (numbers (without_thread xs t))

pub is_last : {X Y : Type 0} (ys : List (ℕ × Y)) (xs : List (ℕ × X)) (t : ℕ) (a : Y) → numbers xs ≡ numbers (ys ++ (t, a) ∷ []) → All (λ n. n < t) (numbers ys) → IsLast xs t
is_last [] [] t a same below = absurd (cc)
is_last {X} [] (x ∷ []) t a same below =
    let first : x.0 ≡ t = cc in
    let test : (x.0 == t) ≡ true = eq-eqb x.0 t first in
    let gone : without_thread (x ∷ []) t ≡ [] = ap (λ b. cond (not b) (x ∷ []) []) test in
    record {
      change = λ v. ap (λ b. cond b ((x.0, v) ∷ []) (x ∷ [])) test ∙ ap (λ n. (n, v) ∷ []) first ∙ sym (ap (λ (zs : List (ℕ × X)). zs ++ (t, v) ∷ []) gone);
      below = subst (λ (zs : List (ℕ × X)). All (λ n. n < t) (numbers zs)) (sym gone) (All-nil (λ n. n < t));
    }
is_last [] (x ∷ y ∷ xs) t a same below = absurd (cc)
is_last (z ∷ ys) [] t a same below = absurd (cc)
is_last {X} (z ∷ ys) (x ∷ xs) t a same below =
    let first : x.0 ≡ z.0 = cc in
    let rest : numbers xs ≡ numbers (ys ++ (t, a) ∷ []) = cc in
    let low : z.0 < t = All-head (λ n. n < t) z.0 (numbers ys) below in
    let apart : (x.0 == t) ≡ false = grind (arith, nat_tests, low, first) in
    let later = is_last ys xs t a rest (All-tail (λ n. n < t) z.0 (numbers ys) below) in
    let kept : without_thread (x ∷ xs) t ≡ x ∷ without_thread xs t = ap (λ b. cond (not b) (x ∷ without_thread xs t) (without_thread xs t)) apart in
    let lower : x.0 < t = omega (arith, first, low) in
    record {
      change = λ v. ap (λ b. cond b ((x.0, v) ∷ xs) (x ∷ with_value xs t v)) apart ∙ ap (λ (zs : List (ℕ × X)). x ∷ zs) (later.change v) ∙ sym (ap (λ (zs : List (ℕ × X)). zs ++ (t, v) ∷ []) kept);
      below = subst (λ (zs : List (ℕ × X)). All (λ n. n < t) (numbers zs)) (sym kept) (All-cons (λ n. n < t) x.0 (numbers (without_thread xs t)) lower later.below);
    }

-- ---- A tick with one more thread, which has no frame.
starts_with : (xs : List (ℕ × Thread)) (t : ℕ) (x : Thread) → x.frames ≡ [] → all_starts (xs ++ (t, x) ∷ []) ≡ all_starts xs
starts_with [] t x none = ap (λ (fs : List Frame). starts_of fs ++ []) none
starts_with (y ∷ xs) t x none = ap (λ (ss : List ℕ). starts_of y.1.frames ++ ss) (starts_with xs t x none)

pub numbers-renewed : (f : Thread → Thread) (xs : List (ℕ × Thread)) → numbers (map (λ (x : ℕ × Thread). (x.0, f x.1)) xs) ≡ numbers xs
numbers-renewed f [] = refl
numbers-renewed f (x ∷ xs) = ap (λ (ns : List ℕ). x.0 ∷ ns) (numbers-renewed f xs)

-- the table without the thread
abbrev pub without : ℕ → Table → Table
without t table = record table { threads = without_thread table.threads t }

pub tick_without : (most t : ℕ) (x : Thread) (table : Table) → All (λ n. n < t) (numbers table.threads) → x.frames ≡ [] →
    without t (bounded_tick most (record table { threads = table.threads ++ (t, x) ∷ [] })) ≡ bounded_tick most table
tick_without most t x table below none = by (ltb table.counter most)
  where
    more : Table
    more = record table { threads = table.threads ++ (t, x) ∷ [] }

    by : (b : Bool) → without t (cond b (plain_tick more) (renewed more)) ≡ cond b (plain_tick table) (renewed table)
    by true = ap (λ (xs : List (ℕ × Thread)). record (plain_tick table) { threads = xs }) (without_last table.threads t x below)
    by false =
        let starts = starts_with table.threads t x none in
        let change = renewed_thread (all_starts table.threads) table.write in
        let xs : List (ℕ × Thread) = map (λ (y : ℕ × Thread). (y.0, change y.1)) table.threads in
        let split = map-append (λ (y : ℕ × Thread). (y.0, change y.1)) table.threads ((t, x) ∷ []) in
        let all = without_last xs t (change x) (All-same (λ n. n < t) (numbers xs) (numbers table.threads) (numbers-renewed change table.threads) below) in
        (λ i. record {
          counter = 3 * length (starts i) + 3;
          write = λ l. new_write (starts i) (table.write l);
          marks = table.marks;
          threads = without_thread (map (λ (y : ℕ × Thread). (y.0, renewed_thread (starts i) table.write y.1)) (table.threads ++ (t, x) ∷ [])) t;
          last = table.last;
          greatest = table.greatest;
          weight = table.weight;
          renumbered = table.renumbered + 1;
        })
        ∙ ap (λ (ys : List (ℕ × Thread)). record (renewed table) { threads = without_thread ys t }) split
        ∙ ap (λ (ys : List (ℕ × Thread)). record (renewed table) { threads = ys }) all

-- ---- The thread that came, with room for a frame.
pub added_here : (live added : List (ℕ × Stamped)) (t : ℕ) (was : Stamped) → All (λ n. n < t) (numbers live) → added ≡ live ++ (t, was) ∷ [] → value_of added t ≡ Some was
added_here live added t was below is = ap (λ (xs : List (ℕ × Stamped)). value_of xs t) is ∙ value_of-pushed live t was below t ∙ own_test t (Some was) (value_of live t)

pub room_came : (live added new : List (ℕ × Stamped)) (t : ℕ) → All (λ n. n < t) (numbers live) → added ≡ live ++ (t, stamped added t [] []) ∷ [] →
    new ≡ with_value added t (stamped new t (frames_of added t) (pages_of added t)) → new ≡ live ++ (t, stamped new t [] []) ∷ []
room_came live added new t below is roomy =
    let was = stamped added t [] [] in
    let here = added_here live added t was below is in
    roomy
    ∙ (λ i. with_value (is i) t (stamped new t (its_frames added t was here i) (its_pages added t was here i)))
    ∙ last_changes live t was (stamped new t [] []) below

pub taken_out : (live added new out : List (ℕ × Stamped)) (t : ℕ) → All (λ n. n < t) (numbers live) → added ≡ live ++ (t, stamped added t [] []) ∷ [] →
    new ≡ with_value added t (stamped new t (frames_of added t) (pages_of added t)) → out ≡ without_thread new t → out ≡ live
taken_out live added new out t below is roomy gone =
    gone ∙ ap (λ (xs : List (ℕ × Stamped)). without_thread xs t) (room_came live added new t below is roomy) ∙ without_last live t (stamped new t [] []) below

-- ---- The whole event.
pages_none : (pages : List Page) → ((w : ℕ) → covers pages w ≡ false) → pages ≡ []
pages_none [] none = refl
pages_none (p ∷ pages) none =
    let own : p.number ≡ (1024 * p.number) / 1024 = omega arith in
    let test : (p.number == (1024 * p.number) / 1024) ≡ true = eq-eqb p.number ((1024 * p.number) / 1024) own in
    let found : is_some (page_of (p ∷ pages) ((1024 * p.number) / 1024)) ≡ true = ap (λ b. is_some (cond b (Some p) (page_of pages ((1024 * p.number) / 1024)))) test in
    let not_found = none (1024 * p.number) in
    absurd (let no : true ≡ false = sym found ∙ not_found in cc)

frames_none : (frames : List Frame) → length frames ≡ 0 → frames ≡ []
frames_none [] none = refl
frames_none (f ∷ frames) none = absurd (omega arith)

module _ (most t : ℕ) (s : State) (more : Live) (new : Clock) (below : All (λ n. n < t) (numbers s.live.threads))
    (added : more.threads ≡ s.live.threads ++ (t, stamped more.threads t [] []) ∷ []) (step : IsAdvanced most true (clock_with s more) new) where
  here : value_of more.threads t ≡ Some (stamped more.threads t [] [])
  here = added_here s.live.threads more.threads t (stamped more.threads t [] []) below added

  pub no_frames : frames_of new.live.threads t ≡ []
  no_frames =
      let found = step.each t (stamped more.threads t [] []) here in
      its_frames new.live.threads t found.0 found.1 ∙ frames_none found.0.frames found.2.frames

  pub no_pages : pages_of new.live.threads t ≡ []
  no_pages =
      let found = step.each t (stamped more.threads t [] []) here in
      its_pages new.live.threads t found.0 found.1 ∙ pages_none found.0.pages found.2.covered

  pub one_more : numbers new.live.threads ≡ numbers (s.live.threads ++ (t, stamped more.threads t [] []) ∷ [])
  one_more = step.same ∙ ap (λ (xs : List (ℕ × Stamped)). numbers xs) added

  last : IsLast new.live.threads t
  last = is_last s.live.threads new.live.threads t (stamped more.threads t [] []) one_more below

  abbrev rest : State
  rest = record (with_clock new s) { live = record { threads = without_thread new.live.threads t; marks = new.live.marks } }

  ticked : table_of_state rest ≡ bounded_tick most (table_of_state s)
  ticked =
      let was = stamped more.threads t [] [] in
      let large : State = record s { live = more } in
      let come = ap as_threads added ∙ threads_come s.live.threads t was in
      let all = All-same (λ n. n < t) (numbers (table_of_state s).threads) (numbers s.live.threads) (numbers_are_told s) below in
      ap (λ (xs : List (ℕ × Thread)). record (table_of_state (with_clock new large)) { threads = xs }) (threads_go new.live.threads t)
      ∙ ap (without t) (step.table large)
      ∙ ap (λ (xs : List (ℕ × Thread)). without t (bounded_tick most (record (table_of_state s) { threads = xs }))) come
      ∙ tick_without most t (as_thread was) (table_of_state s) all refl

  -- its calls are what they were
  its_own : calls_of new.live.threads t ≡ calls_of more.threads t
  its_own =
      let found = step.each t (stamped more.threads t [] []) here in
      its_calls new.live.threads t found.0 found.1 ∙ found.2.calls

  start_lives : is_some (value_of new.live.threads t) ≡ true
  start_lives = ap is_some (step.each t (stamped more.threads t [] []) here).1

  -- and there is room for the first
  start_room : HasRoom more t → HasRoom new.live t
  start_room room =
      let found = step.each t (stamped more.threads t [] []) here in
      let spare : spare_of new.live.threads t ≡ spare_of more.threads t = ap (λ (o : Option Stamped). option_map_or (λ (x : Stamped). x.spare) o 0) found.1 ∙ found.2.spare in
      (omega (arith, room.0, spare), omega (arith, room.1, step.marks))

  started : (entry start number : ℕ) (live : Live) → start ≡ new.counter → number ≡ t →
      (calls_of more.threads t).list ≡ [] → (calls_of more.threads t).counts ≡ no_counts →
      live.threads ≡ with_value new.live.threads t (stamped live.threads t (frames_of new.live.threads t ++ new_frame start ∷ []) (pages_of new.live.threads t)) →
      (calls_of live.threads t).list ≡ record { entry = entry; back = None; earlier = (calls_of new.live.threads t).counts } ∷ (calls_of new.live.threads t).list →
      (calls_of live.threads t).counts ≡ (calls_of new.live.threads t).counts →
      table_of_state (record (with_clock new s) { live = live; greatest = number; weight = s.weight + 1 })
      ≡ table_after (bounded_tick most) (Start t entry) (table_of_state s)
  started entry start number live begins own none uncounted pushed list counts =
      let stamps = stamped live.threads t (frames_of new.live.threads t ++ new_frame start ∷ []) (pages_of new.live.threads t) in
      let frames : stamps.frames ≡ new_frame new.counter ∷ [] = (λ i. no_frames i ++ new_frame (begins i) ∷ []) in
      let no_list = ap (λ (k : Calls). k.list) its_own ∙ none in
      let zero = ap (λ (k : Calls). k.counts) its_own ∙ uncounted in
      (λ i. table_of_state (record (with_clock new s) { live = live; greatest = own i; weight = s.weight + 1 }))
      ∙ event_is_made most (Start t entry) s rest (record rest { live = live; greatest = t }) ticked
      (starts_by_parts rest t entry live stamps (pushed ∙ last.change stamps) frames no_pages
      (list ∙ (λ i. record { entry = entry; back = None; earlier = zero i } ∷ no_list i)) (counts ∙ zero))

-- ---- What the event asks.
pub start_above : (most t entry : ℕ) (s now : State) → s ≡ now → MayTake (StandsFor most) now (Start t entry) → All (λ n. n < t) (numbers s.live.threads)
start_above most t entry s now is may =
    let here = subst (λ (k : State). MayTake (StandsFor most) k (Start t entry)) (sym is) may in
    let agrees = here.now.agrees in
    let up = here.formed.0 in
    All-same (λ n. n < t) (numbers s.live.threads) (numbers (table_of_state s).threads) (sym (numbers_are_told s))
    (All-weaker (λ n. n ≤ greatest_start here.past) (λ n. n < t) (λ n low. omega (arith, low, up)) (numbers (table_of_state s).threads) agrees.started)

starts_came : (live : List (ℕ × Stamped)) (t : ℕ) (was : Stamped) → was.frames ≡ [] → length (parts.all_starts (live ++ (t, was) ∷ [])) ≡ length (parts.all_starts live)
starts_came [] t was none = ap (λ (fs : List Frame). length (starts_of fs ++ [])) none
starts_came (x ∷ live) t was none =
    omega (
      arith,
      starts_came live t was none,
      length-append (starts_of x.1.frames) (parts.all_starts (live ++ (t, was) ∷ [])),
      length-append (starts_of x.1.frames) (parts.all_starts live),
    )

pub advance_came : (most t entry : ℕ) (s now : State) (more : Live) → s ≡ now → MayTake (StandsFor most) now (Start t entry) →
    more.threads ≡ s.live.threads ++ (t, stamped more.threads t [] []) ∷ [] → MayAdvance most (Start t entry) (record s { live = more })
advance_came most t entry s now more is may added =
    let old = advance_here most (Start t entry) s now is may in
    let came = ap (λ (xs : List (ℕ × Stamped)). length (parts.all_starts xs)) added ∙ starts_came s.live.threads t (stamped more.threads t [] []) refl in
    record {
      within = old.within;
      room = omega (arith, old.room, came);
      rising = subst (λ (xs : List (ℕ × Stamped)). IsRising (numbers xs)) (sym added) (rising_pushed s.live.threads t (stamped more.threads t [] []) old.rising (start_above most t entry s now is may));
      few = old.few;
      light = old.light;
    }

-- the starts of no frame
none_below : (frames : List Frame) (n : ℕ) → frames ≡ [] → All (λ r. r < n) (starts_of frames)
none_below frames n none = subst (λ (fs : List Frame). All (λ r. r < n) (starts_of fs)) (sym none) (All-nil (λ r. r < n))

pub first_above : (most t entry start : ℕ) (s now : State) (more : Live) (new : Clock) → s ≡ now → MayTake (StandsFor most) now (Start t entry) →
    more.threads ≡ s.live.threads ++ (t, stamped more.threads t [] []) ∷ [] → IsAdvanced most true (clock_with s more) new →
    All (λ r. r < start) (starts_of (frames_of new.live.threads t))
first_above most t entry start s now more new is may added step =
    none_below (frames_of new.live.threads t) start (no_frames most t s more new (start_above most t entry s now is may) added step)

-- ---- The same by the fields that the code has.
module _ (most t entry : ℕ) (s now : State) (more : Live) (new : Clock) (is : s ≡ now) (may : MayTake (StandsFor most) now (Start t entry))
    (added : more.threads ≡ s.live.threads ++ (t, stamped more.threads t [] []) ∷ []) (step : IsAdvanced most true (clock_with s more) new) where
  above : All (λ n. n < t) (numbers s.live.threads)
  above = start_above most t entry s now is may

  pub lives_started : is_some (value_of new.live.threads t) ≡ true
  lives_started = start_lives most t s more new above added step

  pub room_started : HasRoom more t → HasRoom new.live t
  room_started = start_room most t s more new above added step

  pub started_here : (start number : ℕ) (live : Live) → start ≡ new.counter → number ≡ t →
      (calls_of more.threads t).list ≡ [] → (calls_of more.threads t).counts ≡ no_counts →
      live.threads ≡ with_value new.live.threads t (stamped live.threads t (frames_of new.live.threads t ++ new_frame start ∷ []) (pages_of new.live.threads t)) →
      (calls_of live.threads t).list ≡ record { entry = entry; back = None; earlier = (calls_of new.live.threads t).counts } ∷ (calls_of new.live.threads t).list →
      (calls_of live.threads t).counts ≡ (calls_of new.live.threads t).counts →
      table_of_state (record (with_clock new s) { live = live; greatest = number; weight = s.weight + 1 })
      ≡ table_after (bounded_tick most) (Start t entry) (table_of_state now)
  started_here start number live begins own none uncounted pushed list counts =
      started most t s more new above added step entry start number live begins own none uncounted pushed list counts
      ∙ ap (λ (k : State). table_after (bounded_tick most) (Start t entry) (table_of_state k)) is
