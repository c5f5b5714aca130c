-- What the state's parts tell of its table.
use Rattle.std.specs.Prelude.{◌≡◌, ℕ, List, [], length, reverse, None, Some, is_some}
use Rattle.guest_words.specs.ByThread.{numbers, value_of, with_value}
use Rattle.shadow_pages.specs.Pages.{Page, stamp_at}
use Rattle.stamp_renumber.specs.Threads.{Live, Stamped}
use Rattle.stamp_renumber.specs.Threads as parts
use Rattle.stamp_table.specs.Table.{empty_table}
use Rattle.stamp_table.specs.Renewal.{all_starts}
use Rattle.shadow_core.specs.State.{State, table_of_state}
use Rattle.shadow_core.specs.Private.StateRows.{Has}

-- the state before all events
abbrev pub empty_state : Live → State
empty_state live = record { counter = 0; writes = []; marks = []; live = live; last = None; greatest = 0; weight = 0; renumbered = 0; settled = 0 }

abbrev pub EmptyIsTold : Type 0
EmptyIsTold = (live : Live) → live.threads ≡ [] → table_of_state (empty_state live) ≡ empty_table

abbrev pub NumbersAreTold : Type 0
NumbersAreTold = (s : State) → numbers (table_of_state s).threads ≡ numbers s.live.threads

abbrev pub LifeIsTold : Type 0
LifeIsTold = (s : State) (t : ℕ) → is_some (value_of (table_of_state s).threads t) ≡ is_some (value_of s.live.threads t)

abbrev pub FramesAreTold : Type 0
FramesAreTold = (s : State) → length (all_starts (table_of_state s).threads) ≡ length (parts.all_starts s.live.threads)

-- a thread of the table
abbrev pub ThreadIsTold : Type 0
ThreadIsTold = (s : State) (t : ℕ) (was : Stamped) → Has s t was →
    value_of (table_of_state s).threads t ≡ Some (record { frames = reverse was.frames; calls = was.calls.list; access = stamp_at was.pages; counts = was.calls.counts })

-- More room for a thread's frames, stamps and calls changes nothing.
abbrev pub RoomIsNotTold : Type 0
RoomIsNotTold = (s : State) (t : ℕ) (live : Live) (was is : Stamped) → value_of s.live.threads t ≡ Some was →
    live.threads ≡ with_value s.live.threads t is → is.frames ≡ was.frames → ((l : ℕ) → stamp_at is.pages l ≡ stamp_at was.pages l) →
    is.calls.list ≡ was.calls.list → is.calls.counts ≡ was.calls.counts →
    table_of_state (record s { live = live }) ≡ table_of_state s

-- nor do more pages
abbrev pub PagesAreNotTold : Type 0
PagesAreNotTold = (s : State) (writes marks : List Page) → ((l : ℕ) → stamp_at writes l ≡ stamp_at s.writes l) → ((l : ℕ) → stamp_at marks l ≡ stamp_at s.marks l) →
    table_of_state (record s { writes = writes; marks = marks }) ≡ table_of_state s
