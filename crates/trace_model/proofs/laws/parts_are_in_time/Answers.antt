use Rattle.trace_model.proofs.Positions.{in_time}
use Rattle.trace_model.proofs.laws.parts_are_in_time.Goals as goal

pub returns : goal.returns
returns c = in_time
