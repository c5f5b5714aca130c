use Rattle.aprof_top.proofs.Bounded.{runs_are_bounded}
use Rattle.aprof_top.proofs.laws.runs_are_bounded.Goals as goal

pub returns : goal.returns
returns c = runs_are_bounded c.runs_stay_within.ensures.few_steps c.runs_stay_within.ensures.observed_turns
