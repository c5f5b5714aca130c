use Rattle.command_line.proofs.PlainNumbers.{plain_numbers}
use Rattle.command_line.proofs.laws.plain_numbers_are_refused.Goals as goal

pub returns : goal.returns
returns c = plain_numbers
