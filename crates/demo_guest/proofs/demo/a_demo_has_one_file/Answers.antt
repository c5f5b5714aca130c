use Rattle.demo_guest.proofs.OneFile.{one_file}
use Rattle.demo_guest.proofs.demo.a_demo_has_one_file.Goals as goal

pub returns : goal.returns
returns c = one_file c.one_word_for_an_instruction.ensures
