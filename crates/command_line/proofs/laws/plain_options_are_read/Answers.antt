use Rattle.command_line.proofs.PlainOptions.{plain_options}
use Rattle.command_line.proofs.laws.plain_options_are_read.Goals as goal

pub returns : goal.returns
returns c = plain_options
