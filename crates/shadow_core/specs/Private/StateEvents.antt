-- A whole event, as changes of the state: its tick, if it has one, its row and its weight.
use Rattle.std.specs.Prelude.{◌≡◌, ℕ, ◌+◌, false, List}
use Rattle.guest_words.specs.ByThread.{with_value}
use Rattle.trace_model.specs.declared.event_kinds.Event.{Event}
use Rattle.trace_model.specs.WellFormed.{weight_of}
use Rattle.stamp_renumber.specs.Threads.{Live, Stamped}
use Rattle.stamp_table.specs.Table.{row}
use Rattle.stamp_table.specs.Ticks.{ticks, table_at, table_after}
use Rattle.stamp_table.specs.Renewal.{bounded_tick}
use Rattle.shadow_core.specs.State.{State, table_of_state}
use Rattle.shadow_core.specs.Private.StateRows.{Has}

-- an event with no tick finds the state as it was
abbrev pub NoTickIsMade : Type 0
NoTickIsMade = (most : ℕ) (e : Event) (s : State) → ticks e s.last ≡ false → table_of_state s ≡ table_at (bounded_tick most) e (table_of_state s)

-- then comes its row, and its weight is added
abbrev pub EventIsMade : Type 0
EventIsMade = (most : ℕ) (e : Event) (s now new : State) → table_of_state now ≡ table_at (bounded_tick most) e (table_of_state s) →
    table_of_state new ≡ row e (table_of_state now) →
    table_of_state (record new { weight = now.weight + weight_of e }) ≡ table_after (bounded_tick most) e (table_of_state s)

-- a changed thread is there with what it was changed to
abbrev pub StampedIsThere : Type 0
StampedIsThere = (s : State) (live : Live) (t : ℕ) (was is : Stamped) → Has s t was → live.threads ≡ with_value s.live.threads t is →
    Has (record s { live = live }) t is

-- the last of two changes of a thread counts
abbrev pub LastChangeCounts : Type 0
LastChangeCounts = (live : List (ℕ × Stamped)) (t : ℕ) (was is : Stamped) → with_value (with_value live t was) t is ≡ with_value live t is
