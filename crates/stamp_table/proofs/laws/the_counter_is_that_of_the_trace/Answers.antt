use Rattle.stamp_table.proofs.Counted.{counter_fits}
use Rattle.stamp_table.proofs.Rare.{renumberings_are_rare, renumberings_by_events}
use Rattle.stamp_table.proofs.Runs.{counts_on, runs_agree}
use Rattle.stamp_table.proofs.laws.the_counter_is_that_of_the_trace.Goals as goal

pub returns-clause-counts_on : goal.returns-clause-counts_on
returns-clause-counts_on c = counts_on

pub returns-clause-runs : goal.returns-clause-runs
returns-clause-runs c = runs_agree

pub returns-clause-fits : goal.returns-clause-fits
returns-clause-fits c = counter_fits

pub returns-clause-rare : goal.returns-clause-rare
returns-clause-rare c = renumberings_are_rare

pub returns-clause-rare_by_events : goal.returns-clause-rare_by_events
returns-clause-rare_by_events c = renumberings_by_events
