use Rattle.rv_isa.proofs.OneWord.{one_word}
use Rattle.rv_isa.proofs.laws.one_word_for_an_instruction.Goals as goal

pub returns : goal.returns
returns c = one_word
