use Rattle.trace_model.proofs.Parts.{short_light}
use Rattle.trace_model.proofs.laws.short_parts_are_light.Goals as goal

pub returns : goal.returns
returns c = short_light
