use Rattle.stamp_table.proofs.Observing.{takes_events}
use Rattle.stamp_table.proofs.laws.the_table_takes_events.Goals as goal

pub returns : goal.returns
returns c = takes_events
