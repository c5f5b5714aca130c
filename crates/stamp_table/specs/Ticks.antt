-- When the counter ticks, and the table after events by a way to tick.
use Rattle.std.specs.Prelude.{ℕ, zero, suc, Bool, true, false, not, if◌then◌else◌, nat_eq, List, [], ◌∷◌, Option, Some, None}
use Rattle.trace_model.specs.declared.event_kinds.Event.{Event}
use Rattle.trace_model.specs.declared.event_kinds.Event.TheVariants.{Step, Fill, Call, Start}
use Rattle.stamp_table.specs.Table.{Table, empty_table, event_after}

-- the step is by another thread than the step before; the first step is no switch
abbrev pub is_switch : Option ℕ → ℕ → Bool
is_switch None t = false
is_switch (Some last) t = not (nat_eq last t)

-- a tick comes before each Start, Call and Fill, and before a Step by another thread
abbrev pub ticks : Event → Option ℕ → Bool
ticks (Start _ _) last = true
ticks (Call _ _ _) last = true
ticks (Fill _ _) last = true
ticks (Step t) last = is_switch last t
ticks _ last = false

-- the table at the event, by a way to tick
abbrev pub table_at : (Table → Table) → Event → Table → Table
table_at tick e table = if ticks e table.last then tick table else table

abbrev pub table_after : (Table → Table) → Event → Table → Table
table_after tick e table = event_after e (table_at tick e table)

-- and after several steps of a thread in a row
abbrev pub table_after_steps : (Table → Table) → ℕ → ℕ → Table → Table
table_after_steps tick t zero table = table
table_after_steps tick t (suc n) table = table_after tick (Step t) (table_after_steps tick t n table)

-- the table after all events of the past
abbrev pub table_of : (Table → Table) → List Event → Table
table_of tick [] = empty_table
table_of tick (e ∷ past) = table_after tick e (table_of tick past)
