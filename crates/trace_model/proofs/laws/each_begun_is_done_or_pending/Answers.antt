use Rattle.trace_model.proofs.Pending.{done-pending}
use Rattle.trace_model.proofs.laws.each_begun_is_done_or_pending.Goals as goal

pub returns : goal.returns
returns c = done-pending
