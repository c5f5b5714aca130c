use Rattle.guest_memory.specs.Guest.{memory_of}
use Rattle.guest_calls.proofs.Fits.{lowest_answer}
use Rattle.guest_calls.proofs.pages.first_fit.Goals as goal

pub returns-clause-value : goal.returns-clause-value
returns-clause-value c =
    let e = c.find_free.ensures in
    lowest_answer (memory_of c.args.memory.now) c.args.count c.find_free.result c.requires e.found e.lowest e.none
