use Rattle.stamp_table.proofs.Renewed.{bounded_tick_is_tick}
use Rattle.stamp_table.proofs.laws.a_tick_keeps_the_table.Goals as goal

pub returns : goal.returns
returns c = bounded_tick_is_tick
