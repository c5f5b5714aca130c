use Rattle.shadow_stack.proofs.Halving.{few_more}
use Rattle.shadow_stack.proofs.frames.Frames.move_far.Goals as goal

pub returns-clause-cost : goal.returns-clause-cost
returns-clause-cost g c = λ digits low. few_more _ _ _ digits c.find-place.ensures.cost low
