use Rattle.trace_model.proofs.Causes.{sizes_are_parts, foreign_parts_are_counts}
use Rattle.trace_model.proofs.laws.sizes_are_parts.Goals as goal

pub returns-clause-parts : goal.returns-clause-parts
returns-clause-parts c = sizes_are_parts

pub returns-clause-counts : goal.returns-clause-counts
returns-clause-counts c = foreign_parts_are_counts
