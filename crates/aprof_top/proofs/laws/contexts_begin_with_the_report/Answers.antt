use Rattle.aprof_top.proofs.ContextsBegin.{contexts_begin}
use Rattle.aprof_top.proofs.laws.contexts_begin_with_the_report.Goals as goal

pub returns : goal.returns
returns c = contexts_begin
