-- The rows of the table, as changes of the state. `live` is what the threads' stamps become, and `was` and `is` are those of
-- the thread of the event, before and after it.
use Rattle.std.specs.Prelude.{◌≡◌, ℕ, ◌+◌, List, [], ◌∷◌, ◌++◌, drop, length, map, reverse, Some, None, count_by}
use Rattle.std.specs.List.{range_with_len}
use Rattle.guest_words.specs.ByThread.{IsRising, numbers, value_of, with_value, without_thread}
use Rattle.trace_model.specs.declared.event_kinds.Event.{Event}
use Rattle.trace_model.specs.declared.event_kinds.Event.TheVariants.{Ret}
use Rattle.trace_model.specs.Activations.{count_ending}
use Rattle.trace_model.specs.WellFormed.{weight_of}
use Rattle.stamp_lanes.specs.Plain.{Place, is_by_thread, is_by_kernel}
use Rattle.shadow_stack.specs.declared.sums.Sums.{Sums}
use Rattle.shadow_stack.specs.Frames.{Frame, new_frame}
use Rattle.shadow_pages.specs.Pages.{Page, stamp_at}
use Rattle.stamp_renumber.specs.Threads.{Live, Stamped}
use Rattle.stamp_table.specs.Frames.{frames_after_reads}
use Rattle.call_tracker.specs.ThreadCalls.{no_counts}
use Rattle.stamp_table.specs.Table.{stamped, after_start, after_call, after_step, after_read, after_write, after_fill, after_ret, after_end, row, event_after}
use Rattle.stamp_table.specs.Records.{records, records_of}
use Rattle.shadow_core.specs.Private.Parts.{ArePopped}
use Rattle.shadow_core.specs.State.{State, table_of_state}

-- The threads are by rising number, and the thread is one of them, with these frames, stamps and calls.
pub record Has (s : State) (t : ℕ) (was : Stamped) : Type 0 where
  pub rising : IsRising (numbers s.live.threads)
  pub stamps : value_of s.live.threads t ≡ Some was

-- the words of a range have the stamp, and the others what they had
abbrev pub AreStamped : ℕ → ℕ → ℕ → List Page → List Page → Type 0
AreStamped stamp first count old new = (l : ℕ) → stamp_at new l ≡ stamped stamp first count (stamp_at old) l

abbrev pub StepsByParts : Type 0
StepsByParts = (s : State) (t : ℕ) (live : Live) (was is : Stamped) → Has s t was →
    live.threads ≡ with_value s.live.threads t is → is.frames ≡ was.frames → is.pages ≡ was.pages →
    is.calls.list ≡ was.calls.list → is.calls.counts ≡ record was.calls.counts { steps = was.calls.counts.steps + 1 } →
    table_of_state (record s { live = live; last = Some t }) ≡ after_step t (table_of_state s)

abbrev pub StartsByParts : Type 0
StartsByParts = (s : State) (t entry : ℕ) (live : Live) (is : Stamped) →
    live.threads ≡ s.live.threads ++ (t, is) ∷ [] → is.frames ≡ new_frame s.counter ∷ [] → is.pages ≡ [] →
    is.calls.list ≡ record { entry = entry; back = None; earlier = no_counts } ∷ [] → is.calls.counts ≡ no_counts →
    table_of_state (record s { live = live; greatest = t }) ≡ after_start t entry (table_of_state s)

abbrev pub CallsByParts : Type 0
CallsByParts = (s : State) (t entry back : ℕ) (live : Live) (was is : Stamped) → Has s t was →
    live.threads ≡ with_value s.live.threads t is → is.frames ≡ was.frames ++ new_frame s.counter ∷ [] → is.pages ≡ was.pages →
    is.calls.list ≡ record { entry = entry; back = Some back; earlier = was.calls.counts } ∷ was.calls.list → is.calls.counts ≡ was.calls.counts →
    table_of_state (record s { live = live }) ≡ after_call t entry back (table_of_state s)

-- the stamps and the marks of the words of a range, as a thread's read finds them
abbrev pub places_of : State → Stamped → ℕ → ℕ → List Place
places_of s was first count =
    map (λ l. record { own = stamp_at was.pages l; write = stamp_at s.writes l; mark = stamp_at s.marks l }) (range_with_len first count)

abbrev pub ReadsByParts : Type 0
ReadsByParts = (s : State) (t first count : ℕ) (live : Live) (was is : Stamped) → Has s t was →
    live.threads ≡ with_value s.live.threads t is →
    let places = places_of s was first count in
    reverse is.frames ≡ frames_after_reads places (reverse was.frames) → AreStamped s.counter first count was.pages is.pages →
    is.calls.list ≡ was.calls.list →
    is.calls.counts ≡ record was.calls.counts {
      thread = was.calls.counts.thread + count_by is_by_thread places;
      kernel = was.calls.counts.kernel + count_by is_by_kernel places;
    } →
    table_of_state (record s { live = live }) ≡ after_read t first count (table_of_state s)

abbrev pub WritesByParts : Type 0
WritesByParts = (s : State) (t first count : ℕ) (live : Live) (was is : Stamped) (writes marks : List Page) →
    value_of s.live.threads t ≡ Some was → live.threads ≡ with_value s.live.threads t is → is.frames ≡ was.frames → is.calls ≡ was.calls →
    AreStamped s.counter first count was.pages is.pages → AreStamped s.counter first count s.writes writes → AreStamped 0 first count s.marks marks →
    table_of_state (record s { live = live; writes = writes; marks = marks }) ≡ after_write t first count (table_of_state s)

abbrev pub FillsByParts : Type 0
FillsByParts = (s : State) (first count : ℕ) (writes marks : List Page) →
    AreStamped s.counter first count s.writes writes → AreStamped 1 first count s.marks marks →
    table_of_state (record s { writes = writes; marks = marks }) ≡ after_fill first count (table_of_state s)

-- as many frames are popped, each with its call, as the return ends activations
abbrev pub ReturnsByParts : Type 0
ReturnsByParts = (s : State) (t target : ℕ) (live : Live) (was is : Stamped) (sums : List Sums) → Has s t was →
    live.threads ≡ with_value s.live.threads t is → ArePopped was.frames sums is.frames → is.pages ≡ was.pages →
    is.calls.list ≡ drop (length sums) was.calls.list → is.calls.counts ≡ was.calls.counts →
    length sums ≡ count_ending (Ret t target) t (map (λ o. o.back) was.calls.list) →
    table_of_state (record s { live = live }) ≡ after_ret t target (table_of_state s)

abbrev pub EndsByParts : Type 0
EndsByParts = (s : State) (t : ℕ) (live : Live) → live.threads ≡ without_thread s.live.threads t →
    table_of_state (record s { live = live }) ≡ after_end t (table_of_state s)

-- what is recorded at a return or an end: the popped sums, each with its call
abbrev pub FinishesByParts : Type 0
FinishesByParts = (e : Event) (s : State) (t : ℕ) (was : Stamped) (sums : List Sums) (left : List Frame) → Has s t was →
    ArePopped was.frames sums left → length sums ≡ count_ending e t (map (λ o. o.back) was.calls.list) →
    records_of e t (value_of (table_of_state s).threads t) ≡ records t was.calls.counts sums was.calls.list

-- with its weight it is the table after the event
abbrev pub WeighsByParts : Type 0
WeighsByParts = (e : Event) (s new : State) → table_of_state new ≡ row e (table_of_state s) →
    table_of_state (record new { weight = s.weight + weight_of e }) ≡ event_after e (table_of_state s)
