use Rattle.shadow_pages.specs.Pages.{stamp_at}
use Rattle.shadow_core.proofs.reads.read_at.Goals as goal

pub returns-then-number-clause-thread : goal.returns-then-number-clause-thread
returns-then-number-clause-thread g c = c.read_foreign.ensures.thread (stamp_at c.args.writes.now.pages) c.get-write.ensures

pub returns-then-number-clause-kernel : goal.returns-then-number-clause-kernel
returns-then-number-clause-kernel g c = c.read_foreign.ensures.kernel (stamp_at c.args.writes.now.pages) c.get-write.ensures

pub returns-else-number-clause-thread : goal.returns-else-number-clause-thread
returns-else-number-clause-thread g c = c.read_found.ensures.thread (stamp_at c.args.writes.now.pages) c.get-write.ensures

pub returns-else-number-clause-kernel : goal.returns-else-number-clause-kernel
returns-else-number-clause-kernel g c = c.read_found.ensures.kernel (stamp_at c.args.writes.now.pages) c.get-write.ensures
