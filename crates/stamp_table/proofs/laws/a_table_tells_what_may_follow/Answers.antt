use Rattle.stamp_table.proofs.Room.{allows_what_may_follow, fits_by_frames, pops_stay_within, sums_stay_within, counts_stay_within}
use Rattle.stamp_table.proofs.Deep.{deep_does_not_fit}
use Rattle.stamp_table.proofs.Bulk.{reads_at_once}
use Rattle.stamp_table.proofs.laws.a_table_tells_what_may_follow.Goals as goal

pub returns-clause-allows : goal.returns-clause-allows
returns-clause-allows c = allows_what_may_follow

pub returns-clause-fits : goal.returns-clause-fits
returns-clause-fits c = fits_by_frames

pub returns-clause-sums : goal.returns-clause-sums
returns-clause-sums c = sums_stay_within

pub returns-clause-counts : goal.returns-clause-counts
returns-clause-counts c = counts_stay_within

pub returns-clause-at_once : goal.returns-clause-at_once
returns-clause-at_once c = reads_at_once

pub returns-clause-pops : goal.returns-clause-pops
returns-clause-pops c = pops_stay_within

pub returns-clause-deep : goal.returns-clause-deep
returns-clause-deep c = deep_does_not_fit
