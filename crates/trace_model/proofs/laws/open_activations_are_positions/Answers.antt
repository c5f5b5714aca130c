use Rattle.trace_model.proofs.OpenPositions.{by_positions}
use Rattle.trace_model.proofs.laws.open_activations_are_positions.Goals as goal

pub returns : goal.returns
returns c = by_positions
