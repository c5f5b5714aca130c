-- The stamp table gives the sizes of the definitions, whatever the greatest stamp is.
use Rattle.std.specs.Prelude.{◌≡◌, ℕ, ◌+◌, ◌-◌, ◌*◌, ◌<◌, ◌≤◌, true, List, [], ◌∷◌, ◌++◌, length, map, Some}
use Rattle.guest_words.specs.ByThread.{value_of}
use Rattle.trace_model.specs.declared.event_kinds.Event.{Event}
use Rattle.trace_model.specs.Activations.{open_calls}
use Rattle.trace_model.specs.Depth.{is_within, pending}
use Rattle.trace_model.specs.Profile.{done_of, ended, done}
use Rattle.trace_model.specs.WellFormed.{IsWellFormed}
use Rattle.shadow_stack.specs.Frames.{starts_of}
use Rattle.stamp_table.specs.Frames.{popped}
use Rattle.stamp_table.specs.Table.{Thread, Table, empty_table}
use Rattle.stamp_table.specs.Ticks.{table_at, table_after, table_of}
use Rattle.stamp_table.specs.Renewal.{bounded_tick}
use Rattle.stamp_table.specs.Counting.{counter_of, renumberings, tick_count}
use Rattle.stamp_table.specs.Records.{finished, finished_of, records}
use Rattle.stamp_table.specs.Stands.{IsFalling, Agrees, IsCounted, Stands}

-- ---- What a tick has to do.
-- the stamp is above each stamp of the thread
pub record IsAbove (stamp : ℕ) (thread : Thread) : Type 0 where
  pub access : (l : ℕ) → thread.access l < stamp
  pub starts : IsFalling stamp (starts_of thread.frames)

-- the counter is above all stamps
pub record IsFresh (table : Table) : Type 0 where
  pub writes : (l : ℕ) → table.write l < table.counter
  pub above : (t : ℕ) (thread : Thread) → value_of table.threads t ≡ Some thread → IsAbove table.counter thread

-- after the tick the table still agrees with the past, and its counter is above all stamps
pub record IsTick (tick : Table → Table) : Type 0 where
  pub agrees : (table : Table) (past : List Event) → Agrees table past → Agrees (tick table) past
  pub fresh : (table : Table) (past : List Event) → Agrees table past → IsFresh (tick table)

-- the bounded counter does so, renumbered or not
abbrev pub TicksKeepTheTable : Type 0
TicksKeepTheTable = (most : ℕ) → IsTick (bounded_tick most)

-- ---- What events do.
-- the empty table stands for the empty past
abbrev pub EmptyStands : Type 0
EmptyStands = (most : ℕ) → 3 ≤ most → Stands most empty_table []

-- each event that may follow keeps that the table agrees with the past, renumbered or not
abbrev pub AgreesOn : Type 0
AgreesOn = (most : ℕ) (e : Event) (table : Table) (past : List Event) → IsWellFormed (e ∷ past) → Agrees table past →
    Agrees (table_after (bounded_tick most) e table) (e ∷ past)

-- and that it counts what the trace counts
abbrev pub CountsOn : Type 0
CountsOn = (most : ℕ) (e : Event) (table : Table) (past : List Event) → IsWellFormed (e ∷ past) → Agrees table past → IsCounted most table past →
    IsCounted most (table_after (bounded_tick most) e table) (e ∷ past)

-- so each that fits keeps that the table stands for the past
abbrev pub StandsOn : Type 0
StandsOn = (most : ℕ) (e : Event) (table : Table) (past : List Event) → IsWellFormed (e ∷ past) → is_within most (e ∷ past) ≡ true →
    Stands most table past → Stands most (table_after (bounded_tick most) e table) (e ∷ past)

-- what is popped at the event is what the definitions say of the activations that it ends
abbrev pub FinishesWhatEnds : Type 0
FinishesWhatEnds = (most : ℕ) (e : Event) (table : Table) (past : List Event) → IsWellFormed (e ∷ past) → Agrees table past →
    finished e (table_at (bounded_tick most) e table) ≡ ended e past

-- all open activations of a thread, were they to end now, would be recorded as the definitions say
abbrev pub OpenAreAsDefined : Type 0
OpenAreAsDefined = (table : Table) (past : List Event) (t : ℕ) (thread : Thread) → Agrees table past → value_of table.threads t ≡ Some thread →
    records t thread.counts (popped (length thread.frames) thread.frames) thread.calls ≡ map (done_of past t) (open_calls past t)

-- over a whole run the table records each ended activation with its size, its parts and its cost
abbrev pub FinishesWhatIsDone : Type 0
FinishesWhatIsDone = (most : ℕ) (past : List Event) → IsWellFormed past → finished_of (bounded_tick most) past ≡ done past

-- the table of a run agrees with its trace, and counts what it counts
abbrev pub RunsAgree : Type 0
RunsAgree = (most : ℕ) (past : List Event) → IsWellFormed past →
    Agrees (table_of (bounded_tick most) past) past × IsCounted most (table_of (bounded_tick most) past) past

-- where a past fits, so does the counter at the event that follows
abbrev pub CounterFits : Type 0
CounterFits = (most : ℕ) (e : Event) (past : List Event) → is_within most past ≡ true → counter_of most (e ∷ past) ≤ most

-- at no time of the past are more than so many activations open
abbrev pub IsNeverDeeper : ℕ → List Event → Type 0
IsNeverDeeper depth past = (later earlier : List Event) → later ++ earlier ≡ past → pending earlier ≤ depth

-- Renumberings are rare: for each there are as many ticks as there are stamps above three for each activation that is open at
-- one time and two more. So with 8 bits and at most `depth` open activations at most one tick in 253 - 3 * depth renumbers.
abbrev pub RenumberingsAreRare : Type 0
RenumberingsAreRare = (most depth : ℕ) (past : List Event) → IsNeverDeeper depth past →
    renumberings most past * (most - (3 * depth + 2)) ≤ tick_count past

-- A tick comes with an event of its own, so for each renumbering there are as many events.
abbrev pub RenumberingsByEvents : Type 0
RenumberingsByEvents = (most depth : ℕ) (past : List Event) → IsNeverDeeper depth past →
    renumberings most past * (most - (3 * depth + 2)) ≤ length past
