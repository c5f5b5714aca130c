use Rattle.trace_model.proofs.Cut.{cut_is_longest, within_is_of_each}
use Rattle.trace_model.proofs.laws.cut_is_the_longest_prefix.Goals as goal

pub returns-clause-cut : goal.returns-clause-cut
returns-clause-cut c = cut_is_longest

pub returns-clause-within : goal.returns-clause-within
returns-clause-within c = within_is_of_each
