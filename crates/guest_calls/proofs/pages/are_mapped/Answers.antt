use Rattle.guest_memory.specs.Guest.{memory_of}
use Rattle.guest_calls.proofs.Fits.{mapped_test}
use Rattle.guest_calls.proofs.pages.are_mapped.Goals as goal

pub returns-clause-value : goal.returns-clause-value
returns-clause-value c = mapped_test (memory_of c.args.memory.now) c.args.page c.args.count c.is_mapped.result c.is_mapped.ensures
