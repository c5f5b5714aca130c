use Rattle.stamp_renumber.proofs.Above.{ticks_stay_above}
use Rattle.stamp_renumber.proofs.laws.ticks_stay_above.Goals as goal

pub returns : goal.returns
returns c = ticks_stay_above
