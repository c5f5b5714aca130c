use Rattle.trace_file.proofs.OneReading.{one_trace}
use Rattle.trace_file.proofs.laws.a_text_is_of_one_trace.Goals as goal

pub returns : goal.returns
returns c = one_trace
