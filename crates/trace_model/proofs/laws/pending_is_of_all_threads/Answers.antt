use Rattle.trace_model.proofs.Pending.{pending-threads}
use Rattle.trace_model.proofs.laws.pending_is_of_all_threads.Goals as goal

pub returns : goal.returns
returns c = pending-threads
