use Rattle.written_images.proofs.Names.{names}
use Rattle.written_images.proofs.laws.written_names_are_read.Goals as goal

pub returns : goal.returns
returns c = record { names = names }
