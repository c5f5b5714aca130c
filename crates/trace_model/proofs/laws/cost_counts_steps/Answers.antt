use Rattle.trace_model.proofs.Counted.{cost_counted}
use Rattle.trace_model.proofs.laws.cost_counts_steps.Goals as goal

pub returns : goal.returns
returns c = cost_counted
