use Rattle.command_line.proofs.Taken.{fails_by_numbers}
use Rattle.command_line.proofs.laws.taken_words_fail_by_numbers.Goals as goal

pub returns : goal.returns
returns c = fails_by_numbers
