use Rattle.command_line.proofs.PlainDemo.{plain_demo}
use Rattle.command_line.proofs.laws.plain_demo_is_taken.Goals as goal

pub returns : goal.returns
returns c = plain_demo
