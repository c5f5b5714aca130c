use Rattle.command_line.proofs.PlainOptions.{plain_replay_options}
use Rattle.command_line.proofs.laws.plain_replays_are_read.Goals as goal

pub returns : goal.returns
returns c = plain_replay_options
