use Rattle.trace_file.proofs.OneReading.{earlier_refusal, earlier_trace}
use Rattle.trace_file.proofs.laws.beginnings_are_read.Goals as goal

pub returns-clause-traces : goal.returns-clause-traces
returns-clause-traces c = earlier_trace

pub returns-clause-refused : goal.returns-clause-refused
returns-clause-refused c = earlier_refusal
