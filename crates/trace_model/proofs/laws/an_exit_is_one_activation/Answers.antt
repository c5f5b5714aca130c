use Rattle.trace_model.proofs.Exit.{one_activation}
use Rattle.trace_model.proofs.laws.an_exit_is_one_activation.Goals as goal

pub returns : goal.returns
returns c = one_activation
