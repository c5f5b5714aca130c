use Rattle.trace_model.proofs.Endings.{by_endings}
use Rattle.trace_model.proofs.laws.done_is_by_endings.Goals as goal

pub returns : goal.returns
returns c = by_endings
