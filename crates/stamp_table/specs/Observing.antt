-- The table as an observer of events: whatever past it stands for, it takes the event, or refuses what does not fit.
use Rattle.std.specs.Prelude.{◌≡◌, ℕ, true, false, List, ◌∷◌, ◌++◌}
use Rattle.trace_model.specs.declared.event_kinds.Event.{Event}
use Rattle.trace_model.specs.declared.observer.Observed.TheVariants.{Taken, Refused}
use Rattle.trace_model.specs.Depth.{is_within}
use Rattle.trace_model.specs.Observing.{MayTake, Observes}
use Rattle.trace_model.specs.Profile.{done}
use Rattle.stamp_table.specs.Table.{Table}
use Rattle.stamp_table.specs.Ticks.{table_at, table_after}
use Rattle.stamp_table.specs.Renewal.{bounded_tick}
use Rattle.stamp_table.specs.Records.{finished}
use Rattle.stamp_table.specs.Stands.{Stands}
use Rattle.stamp_table.specs.Allows.{has_stamps}

pub record TakesEvent (most : ℕ) (e : Event) (table : Table) : Type 0 where
  -- where there are stamps for the event, the table after it stands for the longer past
  pub taken : has_stamps most e table ≡ true → Observes (Stands most) (is_within most) e table (table_after (bounded_tick most) e table) Taken
  -- and what is recorded at the event is what the profile gains
  pub gained : (past : List Event) → Stands most table past → done (e ∷ past) ≡ done past ++ finished e (table_at (bounded_tick most) e table)
  -- where there are too few, the longer past does not fit, and the table stays
  pub refused : has_stamps most e table ≡ false → Observes (Stands most) (is_within most) e table table Refused

abbrev pub TakesEvents : Type 0
TakesEvents = (most : ℕ) (e : Event) (table : Table) → MayTake (Stands most) table e → TakesEvent most e table
