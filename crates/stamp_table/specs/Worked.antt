-- Worked traces, by the table alone. The stamps are so few that they are renumbered, and the profiles are the same.
use Rattle.std.specs.Prelude.{◌≡◌, true, reverse}
use Rattle.trace_model.specs.Depth.{is_within}
use Rattle.trace_model.specs.Profile.{done}
use Rattle.trace_model.specs.WorkedTraces.{kernel_fills, other_thread_writes, own_write_between}
use Rattle.stamp_table.specs.Ticks.{table_of}
use Rattle.stamp_table.specs.Renewal.{bounded_tick}
use Rattle.stamp_table.specs.Records.{finished_of}

pub record WorkedTables : Type 0 where
  pub writes : finished_of (bounded_tick 12) (reverse other_thread_writes) ≡ done (reverse other_thread_writes)
  pub writes_fit : is_within 12 (reverse other_thread_writes) ≡ true
  pub writes_renumbered : (table_of (bounded_tick 12) (reverse other_thread_writes)).renumbered ≡ 5
  pub own_write : finished_of (bounded_tick 12) (reverse own_write_between) ≡ done (reverse own_write_between)
  pub own_write_renumbered : (table_of (bounded_tick 12) (reverse own_write_between)).renumbered ≡ 5
  -- the law holds for any greatest stamp: here even the first renumbering passes it
  pub fills : finished_of (bounded_tick 3) (reverse kernel_fills) ≡ done (reverse kernel_fills)
  pub fills_renumbered : (table_of (bounded_tick 3) (reverse kernel_fills)).renumbered ≡ 1
