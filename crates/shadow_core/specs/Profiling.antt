-- What the fields of a profiler keep to, and what a tick leaves of them.
use Rattle.std.specs.Prelude.{◌≡◌, ℕ, ◌≤◌, Bool, true, if◌then◌else◌, List, length, Some, is_some}
use Rattle.guest_words.specs.ByThread.{numbers, value_of}
use Rattle.trace_model.specs.declared.event_kinds.Event.{Event}
use Rattle.shadow_pages.specs.Pages.{Page, covers, stamp_at}
use Rattle.stamp_renumber.specs.Threads.{Live, Stamped, pages_of}
use Rattle.stamp_table.specs.Renewal.{bounded_tick}
use Rattle.stamp_table.specs.Stands.{Stands}
use Rattle.shadow_core.specs.State.{State, table_of_state}

-- the state's table stands for the past
abbrev pub StandsFor : ℕ → State → List Event → Type 0
StandsFor most s past = Stands most (table_of_state s) past

-- Each word that has a write stamp has a mark. What the running thread accessed at `settled` or later, no one else wrote since.
pub record IsWhole (s : State) : Type 0 where
  pub marked : (w : ℕ) → covers s.writes w ≡ true → covers s.marks w ≡ true
  pub settled : (t : ℕ) → s.last ≡ Some t → is_some (value_of s.live.threads t) ≡ true → (w : ℕ)
      → s.settled ≤ stamp_at (pages_of s.live.threads t) w → stamp_at s.writes w ≤ stamp_at (pages_of s.live.threads t) w

-- What a tick changes.
pub record Clock : Type 0 where
  pub counter : ℕ
  pub writes : List Page
  pub live : Live
  pub renumbered : ℕ

abbrev pub with_clock : Clock → State → State
with_clock clock s = record s { counter = clock.counter; writes = clock.writes; live = clock.live; renumbered = clock.renumbered }

-- A thread has as many frames as before, and the room, the pages and the calls that it had.
pub record IsAsLarge (was is : Stamped) : Type 0 where
  pub spare : is.spare ≡ was.spare
  pub frames : length is.frames ≡ length was.frames
  pub covered : (w : ℕ) → covers is.pages w ≡ covers was.pages w
  pub calls : is.calls ≡ was.calls

-- The counter ticked, where it was to tick, whatever else the state has. The same threads live, and no room is lost.
pub record IsAdvanced (most : ℕ) (ticks : Bool) (old new : Clock) : Type 0 where
  pub table : (s : State) →
      table_of_state (with_clock new s) ≡ (if ticks then bounded_tick most (table_of_state (with_clock old s)) else table_of_state (with_clock old s))
  pub same : numbers new.live.threads ≡ numbers old.live.threads
  pub each : (t : ℕ) (was : Stamped) → value_of old.live.threads t ≡ Some was →
      (is : Stamped) × (value_of new.live.threads t ≡ Some is) × IsAsLarge was is
  pub marks : new.live.marks ≡ old.live.marks
  pub covered : (w : ℕ) → covers new.writes w ≡ covers old.writes w
  pub within : new.counter ≤ most
