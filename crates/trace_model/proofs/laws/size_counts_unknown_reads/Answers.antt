use Rattle.trace_model.proofs.Counted.{size_counted, parts_counted, bare_counted}
use Rattle.trace_model.proofs.laws.size_counts_unknown_reads.Goals as goal

pub returns-clause-size : goal.returns-clause-size
returns-clause-size c = size_counted

pub returns-clause-parts : goal.returns-clause-parts
returns-clause-parts c = parts_counted

pub returns-clause-bare : goal.returns-clause-bare
returns-clause-bare c = bare_counted
