use Rattle.aprof_top.proofs.AnOutcome.{outcome_there}
use Rattle.aprof_top.proofs.laws.a_command_has_an_outcome.Goals as goal

pub returns : goal.returns
returns c = outcome_there
