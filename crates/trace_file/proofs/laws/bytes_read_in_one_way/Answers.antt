use Rattle.trace_file.proofs.OneReading.{not_refused, one_refusal}
use Rattle.trace_file.proofs.laws.bytes_read_in_one_way.Goals as goal

pub returns-clause-refused : goal.returns-clause-refused
returns-clause-refused c = one_refusal

pub returns-clause-apart : goal.returns-clause-apart
returns-clause-apart c = not_refused
