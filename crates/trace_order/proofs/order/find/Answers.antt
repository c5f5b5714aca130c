use Rattle.trace_order.proofs.Live.{found}
use Rattle.trace_order.proofs.order.find.Goals as goal

pub returns : goal.returns
returns c = rw c.ok.ensures.value (found c.args.threads.now c.args.tid _ c.requires c.binary_search.ensures.position)
