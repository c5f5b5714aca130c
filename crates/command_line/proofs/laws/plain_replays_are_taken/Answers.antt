use Rattle.command_line.proofs.PlainWords.{plain_replay}
use Rattle.command_line.proofs.laws.plain_replays_are_taken.Goals as goal

pub returns : goal.returns
returns c = plain_replay
