use Rattle.command_line.proofs.PlainWords.{plain_words}
use Rattle.command_line.proofs.laws.plain_words_are_taken.Goals as goal

pub returns : goal.returns
returns c = plain_words
