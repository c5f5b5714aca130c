-- What holds of a profiler that may take a read, and what a read makes of its state.
use Rattle.std.proofs.Common.{None, ◌≡◌, ℕ, ◌+◌, ◌<◌, ◌≤◌, ◌^◌, true, List, [], ◌∷◌, length, refl, sym, ap, subst, ◌∙◌, arith}
use Rattle.std.specs.Prelude.{All, Option, count_by, is_some, reverse}
use Rattle.std.specs.List.{range_with_len}
use Rattle.std.specs.Option.{option_map_or}
use Rattle.std.proofs.lemmas.List.{length-map, length-reverse, reverse-reverse}
use Rattle.std.proofs.lemmas.List.Elements.{All-cons, All-nil}
use Rattle.guest_words.specs.ByThread.{value_of, with_value}
use Rattle.trace_model.specs.declared.event_kinds.Event.{Event}
use Rattle.trace_model.specs.declared.event_kinds.Event.TheVariants.{Read}
use Rattle.trace_model.specs.Observing.{MayTake}
use Rattle.trace_model.specs.WellFormed.{weight, weight_of}
use Rattle.stamp_lanes.specs.Plain.{is_by_kernel, is_by_thread}
use Rattle.shadow_stack.specs.Frames.{Frame, starts_of}
use Rattle.shadow_pages.specs.Pages.{Page, stamp_at}
use Rattle.call_tracker.specs.ThreadCalls.{Calls}
use Rattle.stamp_renumber.specs.Counted.{found_added, with_calls}
use Rattle.stamp_renumber.specs.Threads.{Live, Stamped, calls_of, frames_of, pages_of, spare_of, stamped}
use Rattle.stamp_table.specs.Allows.{AreWithin, IsWithin}
use Rattle.stamp_table.specs.Frames.{frames_after_reads}
use Rattle.shadow_core.specs.Profiling.{StandsFor}
use Rattle.shadow_core.specs.Private.Reading.{IsChanged, IsRead, places_at}
use Rattle.stamp_table.specs.Renewal.{bounded_tick}
use Rattle.stamp_table.specs.Stands.{IsFalling, Stands}
use Rattle.shadow_core.specs.State.{State, as_thread, table_of_state}
use Rattle.shadow_core.specs.Private.StateRows.{Has}
use Rattle.stamp_table.specs.Table.{Table, Thread, empty_table}
use Rattle.stamp_table.specs.Table.{stamped as stamped_as}
use Rattle.stamp_table.specs.Ticks.{table_after}
use Rattle.shadow_core.proofs.Accessed.{its_calls, own_room}
use Rattle.shadow_core.proofs.Profiled.{alive}
use Rattle.shadow_core.proofs.Reading.{All-reverse, lives_changed, starts_reverse, within_more}
use Rattle.stamp_table.proofs.Room.{counts_stay_within, pops_stay_within}
use Rattle.shadow_core.proofs.StateEvents.{event_is_made, last_change_counts, no_tick_is_made}
use Rattle.shadow_core.proofs.StateRows.{reads_by_parts}
use Rattle.shadow_core.proofs.StateTold.{empty_is_told, thread_is_told}
use Rattle.stamp_table.proofs.There.{has_frame}

-- What a read asks of the parts.
pub record MayRead (s : State) (t first count : ℕ) : Type 0 where
  pub was : Stamped
  pub has : Has s t was
  pub some : 1 ≤ count
  pub words : first + count ≤ 2 ^ 30
  pub lives : is_some (value_of s.live.threads t) ≡ true
  pub depth : 1 ≤ length (frames_of s.live.threads t)
  pub starts : All (λ r. 0 < r) (starts_of (frames_of s.live.threads t))
  pub sums : AreWithin (2 ^ 62) (frames_of s.live.threads t)
  -- the counts have room for the words
  pub thread : was.calls.counts.thread + count < 2 ^ 64
  pub kernel : was.calls.counts.kernel + count < 2 ^ 64

-- the frames and the pages of a thread that is there
pub frames_had : (s : State) (t : ℕ) (was : Stamped) → Has s t was → frames_of s.live.threads t ≡ was.frames
frames_had s t was has = ap (λ (o : Option Stamped). option_map_or (λ (x : Stamped). x.frames) o []) has.stamps

pub pages_had : (s : State) (t : ℕ) (was : Stamped) → Has s t was → pages_of s.live.threads t ≡ was.pages
pages_had s t was has = ap (λ (o : Option Stamped). option_map_or (λ (x : Stamped). x.pages) o []) has.stamps

none_is_zero : (limit : ℕ) (ss : List ℕ) → IsFalling limit ss → All (λ r. 0 < r) ss
none_is_zero limit [] falling = All-nil (λ r. 0 < r)
none_is_zero limit (s ∷ ss) falling = All-cons (λ r. 0 < r) s ss falling.0 (none_is_zero s ss falling.2)

pub may_read : (most t first count : ℕ) (s : State) → MayTake (StandsFor most) s (Read t first count) → MayRead s t first count
may_read most t first count s may =
    let agrees = may.now.agrees in
    let follows = may.formed.0 in
    let light = may.formed.1 in
    let a = alive s t may.past agrees follows.0.0 in
    let fs = a.was.frames in
    let thread : Thread = as_thread a.was in
    let found = thread_is_told s t a.was a.has in
    let stands = agrees.threads t thread found in
    let had = frames_had s t a.was a.has in
    let frame = has_frame (table_of_state s) may.past t thread agrees.formed follows.0.0 stands in
    let counts = counts_stay_within (table_of_state s) may.past t thread agrees found in
    let sums : AreWithin (2 ^ 62) (reverse fs) = within_more (weight may.past) (2 ^ 62) (reverse fs) (omega (arith, light)) (pops_stay_within (table_of_state s) may.past t 0 thread agrees found) in
    let starts : All (λ r. 0 < r) (reverse (starts_of fs)) = subst (All (λ r. 0 < r)) (starts_reverse fs) (none_is_zero (s.counter + 1) (starts_of (reverse fs)) stands.falling) in
    record {
      was = a.was;
      has = a.has;
      some = follows.1.0;
      words = follows.1.1;
      lives = ap (λ (o : Option Stamped). is_some o) a.has.stamps;
      depth = omega (arith, frame, length-map (reverse fs) (λ (f : Frame). f.start), length-reverse fs, ap (λ (gs : List Frame). length gs) had);
      starts =
          subst (λ (gs : List Frame). All (λ r. 0 < r) (starts_of gs)) (sym had)
          (subst (All (λ r. 0 < r)) (reverse-reverse (starts_of fs)) (All-reverse (λ r. 0 < r) (reverse (starts_of fs)) starts));
      sums =
          subst (λ (gs : List Frame). AreWithin (2 ^ 62) gs) (sym had)
          (subst (λ (gs : List Frame). AreWithin (2 ^ 62) gs) (reverse-reverse fs) (All-reverse (λ (f : Frame). IsWithin (2 ^ 62) f.sums.plain × IsWithin (2 ^ 62) f.sums.bare) (reverse fs) sums));
      thread = omega (arith, counts.1, light);
      kernel = omega (arith, counts.2, light);
    }

-- ---- more pages
-- where the tables are the same, the same event may come
pub may_same : (most : ℕ) (e : Event) (s now : State) → table_of_state now ≡ table_of_state s → MayTake (StandsFor most) s e → MayTake (StandsFor most) now e
may_same most e s now same may = record { past = may.past; now = subst (λ (table : Table). Stands most table may.past) (sym same) may.now; formed = may.formed }

-- ---- the read
-- `read` are the threads after the read of the words, and `live` with what was found
module _ (most t first count thread kernel : ℕ) (s : State) (read live : Live) (was : Stamped) (has : Has s t was)
    (made : IsRead s.live read t (stamp_at s.writes) (stamp_at s.marks) first count s.counter)
    (threads : thread ≡ count_by is_by_thread (places_at (stamp_at (pages_of s.live.threads t)) (stamp_at s.writes) (stamp_at s.marks) (range_with_len first count)))
    (kernels : kernel ≡ count_by is_by_kernel (places_at (stamp_at (pages_of s.live.threads t)) (stamp_at s.writes) (stamp_at s.marks) (range_with_len first count))) where
  pub read_made : (is : Stamped) → live.threads ≡ with_value s.live.threads t is → is.frames ≡ frames_of read.threads t → is.pages ≡ pages_of read.threads t →
      is.calls ≡ found_added thread kernel (calls_of s.live.threads t) →
      table_of_state (record s { live = live; weight = s.weight + weight_of (Read t first count) }) ≡ table_after (bounded_tick most) (Read t first count) (table_of_state s)
  read_made is changed same_frames same_pages found =
      let write = stamp_at s.writes in
      let marks = stamp_at s.marks in
      let words = range_with_len first count in
      let pages = pages_had s t was has in
      let frames = frames_had s t was has in
      let calls = its_calls s.live.threads t was has.stamps in
      let by_thread : thread ≡ count_by is_by_thread (places_at (stamp_at was.pages) write marks words) = threads ∙ ap (λ ps. count_by is_by_thread (places_at (stamp_at ps) write marks words)) pages in
      let by_kernel : kernel ≡ count_by is_by_kernel (places_at (stamp_at was.pages) write marks words) = kernels ∙ ap (λ ps. count_by is_by_kernel (places_at (stamp_at ps) write marks words)) pages in
      let counted : is.calls ≡ found_added (count_by is_by_thread (places_at (stamp_at was.pages) write marks words)) (count_by is_by_kernel (places_at (stamp_at was.pages) write marks words)) was.calls =
      found ∙ (λ i. found_added (by_thread i) (by_kernel i) (calls i)) in
      event_is_made most (Read t first count) s s (record s { live = live }) (no_tick_is_made most (Read t first count) s refl)
      (reads_by_parts s t first count live was is has changed
      (ap (reverse {A = Frame}) same_frames ∙ made.frames ∙ (λ i. frames_after_reads (places_at (stamp_at (pages i)) write marks words) (reverse (frames i))))
      (λ l. ap (λ (ps : List Page). stamp_at ps l) same_pages ∙ made.stamps l ∙ ap (λ ps. stamped_as s.counter first count (stamp_at ps) l) pages)
      (ap (λ (k : Calls). k.list) counted) (ap (λ (k : Calls). k.counts) counted))

-- ---- the whole event
-- the thread has pages for the words, in `more`
module _ (most t first count : ℕ) (s now : State) (more : Live) (is : s ≡ now) (may : MayTake (StandsFor most) now (Read t first count))
    (changed : IsChanged s.live more t (frames_of s.live.threads t) (pages_of more.threads t)) (stamps : (w : ℕ) → stamp_at (pages_of more.threads t) w ≡ stamp_at (pages_of s.live.threads t) w) where
  may_here : MayTake (StandsFor most) s (Read t first count)
  may_here = subst (λ (k : State). MayTake (StandsFor most) k (Read t first count)) (sym is) may

  abbrev large : State
  large = record s { live = more }

  pub same_there : table_of_state large ≡ table_of_state s
  same_there = let m = may_read most t first count s may_here in own_room s t m.was more m.has changed stamps

  pub may_read_there : MayRead large t first count
  may_read_there = may_read most t first count large (may_same most (Read t first count) s large same_there may_here)

  module _ (read : Live) (thread kernel stamp : ℕ) (made : IsRead more read t (stamp_at s.writes) (stamp_at s.marks) first count stamp) where
    -- the calls stay
    calls_left : calls_of read.threads t ≡ may_read_there.was.calls
    calls_left = made.changed.calls ∙ its_calls more.threads t may_read_there.was may_read_there.has.stamps

    pub found_lives : is_some (value_of read.threads t) ≡ true
    found_lives = lives_changed more read t (frames_of read.threads t) (pages_of read.threads t) may_read_there.lives made.changed

    -- what is found fits
    pub found_fits : thread ≤ count → kernel ≤ count → ((calls_of read.threads t).counts.thread + thread < 2 ^ 64) × ((calls_of read.threads t).counts.kernel + kernel < 2 ^ 64)
    found_fits few few' =
        let m = may_read_there in
        let same = calls_left in
        (omega (arith, m.thread, few, ap (λ (k : Calls). k.counts.thread) same), omega (arith, m.kernel, few', ap (λ (k : Calls). k.counts.kernel) same))

    pub read_whole : (live : Live) (heavier : ℕ) → stamp ≡ s.counter →
        thread ≡ count_by is_by_thread (places_at (stamp_at (pages_of more.threads t)) (stamp_at s.writes) (stamp_at s.marks) (range_with_len first count)) →
        kernel ≡ count_by is_by_kernel (places_at (stamp_at (pages_of more.threads t)) (stamp_at s.writes) (stamp_at s.marks) (range_with_len first count)) →
        live ≡ with_calls read t (found_added thread kernel (calls_of read.threads t)) → heavier ≡ s.weight + weight_of (Read t first count) →
        table_of_state (record s { live = live; weight = heavier }) ≡ table_after (bounded_tick most) (Read t first count) (table_of_state now)
    read_whole live heavier counter threads kernels counted weighed =
        let m = may_read_there in
        let after = found_added thread kernel (calls_of read.threads t) in
        let new : Stamped = record { frames = frames_of read.threads t; spare = spare_of read.threads t; pages = pages_of read.threads t; calls = after } in
        let one : (with_calls read t after).threads ≡ with_value more.threads t new =
        ap (λ (xs : List (ℕ × Stamped)). with_value xs t new) made.changed.threads
        ∙ last_change_counts more.threads t (stamped read.threads t (frames_of read.threads t) (pages_of read.threads t)) new in
        (λ i. table_of_state (record s { live = counted i; weight = weighed i }))
        ∙ read_made most t first count thread kernel large read (with_calls read t after) m.was m.has
        (subst (λ (n : ℕ). IsRead more read t (stamp_at s.writes) (stamp_at s.marks) first count n) counter made) threads kernels
        new one refl refl (ap (found_added thread kernel) made.changed.calls)
        ∙ ap (λ (table : Table). table_after (bounded_tick most) (Read t first count) table) (same_there ∙ ap table_of_state is)

-- ---- no event
pub nothing_told : (writes marks : List Page) (live : Live) → writes ≡ [] → marks ≡ [] → live.threads ≡ [] →
    table_of_state (record { counter = 0; writes = writes; marks = marks; live = live; last = None; greatest = 0; weight = 0; renumbered = 0; settled = 0 }) ≡ empty_table
nothing_told writes marks live unwritten unmarked none =
    (λ i. table_of_state (record {
      counter = 0;
      writes = unwritten i;
      marks = unmarked i;
      live = record live { threads = none i };
      last = None;
      greatest = 0;
      weight = 0;
      renumbered = 0;
      settled = 0;
    }))
    ∙ empty_is_told (record live { threads = [] }) refl
