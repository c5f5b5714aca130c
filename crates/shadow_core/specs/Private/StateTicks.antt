-- A tick, as a change of the state.
use Rattle.std.specs.Prelude.{◌≡◌, ℕ, ◌+◌, ◌*◌, ◌<◌, ◌≤◌, if◌then◌else◌, List, length}
use Rattle.guest_words.specs.ByThread.{IsRising, numbers}
use Rattle.shadow_pages.specs.Pages.{Page}
use Rattle.stamp_renumber.specs.Threads.{Live, all_starts}
use Rattle.stamp_renumber.specs.Ticks.{IsRenumbered, ticked}
use Rattle.stamp_table.specs.Renewal.{renewed, bounded_tick}
use Rattle.shadow_core.specs.State.{State, table_of_state}

-- the state where all stamps were renumbered
abbrev pub renumbered_to : Live → List Page → State → State
renumbered_to live writes s =
    record s { counter = 3 * length (all_starts s.live.threads) + 3; writes = writes; live = live; renumbered = s.renumbered + 1 }

-- the state with what `tick` answers
abbrev pub ticked_to : ℕ → Live → List Page → State → State
ticked_to most live writes s =
    let answer = ticked most s.counter (length (all_starts s.live.threads)) in
    record s { counter = answer.counter; writes = writes; live = live; renumbered = s.renumbered + (if answer.renewed then 1 else 0) }

-- The frames are in another order, but the classes are the same.
abbrev pub RenewsAll : Type 0
RenewsAll = (s : State) (live : Live) (writes : List Page) → IsRising (numbers s.live.threads) → IsRenumbered s.live live s.writes writes →
    table_of_state (renumbered_to live writes s) ≡ renewed (table_of_state s)

-- what `tick` leaves is the tick of the table
abbrev pub TicksByParts : Type 0
TicksByParts = (most : ℕ) (s : State) (live : Live) (writes : List Page) → s.counter ≤ most → IsRising (numbers s.live.threads) →
    (s.counter < most → (live ≡ s.live) × (writes ≡ s.writes)) →
    (s.counter ≡ most → IsRenumbered s.live live s.writes writes) →
    table_of_state (ticked_to most live writes s) ≡ bounded_tick most (table_of_state s)
