use Rattle.stamp_table.proofs.Runs.{empty_stands, agrees_on, stands_on, finishes_what_ends, finishes_what_is_done}
use Rattle.stamp_table.proofs.Whole.{open_are_as_defined}
use Rattle.stamp_table.proofs.laws.each_event_keeps_the_table.Goals as goal

pub returns-clause-empty : goal.returns-clause-empty
returns-clause-empty c = empty_stands

pub returns-clause-agrees_on : goal.returns-clause-agrees_on
returns-clause-agrees_on c = agrees_on

pub returns-clause-stands_on : goal.returns-clause-stands_on
returns-clause-stands_on c = stands_on

pub returns-clause-finishes : goal.returns-clause-finishes
returns-clause-finishes c = finishes_what_ends

pub returns-clause-whole_run : goal.returns-clause-whole_run
returns-clause-whole_run c = finishes_what_is_done

pub returns-clause-open_ones : goal.returns-clause-open_ones
returns-clause-open_ones c = open_are_as_defined
