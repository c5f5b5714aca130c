use Rattle.guest_run.specs.Machine.{guest}
use Rattle.guest_run.proofs.Bounds.{ends_deep, observes_part, records_observed_turns, records_turns, spends_budget, stays_within}
use Rattle.guest_run.proofs.Counted.{counts_steps, steps_within}
use Rattle.guest_run.proofs.laws.runs_stay_within.Goals as goal

pub returns-clause-moves : goal.returns-clause-moves
returns-clause-moves c = stays_within guest

pub returns-clause-spent : goal.returns-clause-spent
returns-clause-spent c = spends_budget

pub returns-clause-turns : goal.returns-clause-turns
returns-clause-turns c = records_turns guest

pub returns-clause-observed_turns : goal.returns-clause-observed_turns
returns-clause-observed_turns c = records_observed_turns

pub returns-clause-observed_run : goal.returns-clause-observed_run
returns-clause-observed_run c = observes_part

pub returns-clause-deep : goal.returns-clause-deep
returns-clause-deep c = ends_deep

pub returns-clause-steps : goal.returns-clause-steps
returns-clause-steps c = counts_steps

pub returns-clause-few_steps : goal.returns-clause-few_steps
returns-clause-few_steps c = steps_within
