use Rattle.command_line.proofs.PlainDemo.{plain_number}
use Rattle.command_line.proofs.laws.plain_demo_is_read.Goals as goal

pub returns : goal.returns
returns c = plain_number
