use Rattle.written_images.proofs.Files.{accepted, image}
use Rattle.written_images.proofs.laws.written_files_are_accepted.Goals as goal

pub returns-clause-accepted : goal.returns-clause-accepted
returns-clause-accepted c = accepted

pub returns-clause-image : goal.returns-clause-image
returns-clause-image c = image
