use Rattle.std.proofs.Common.{◌∙◌, ◌+◌, None, ap, arith}
use Rattle.guest_memory.specs.Memory.{Memory, with_pages}
use Rattle.guest_memory.specs.Guest.{memory_of}
use Rattle.guest_memory.specs.State.{memory_in}
use Rattle.guest_memory.proofs.Unmapped.{with_pages-more}
use Rattle.guest_memory.proofs.memory.GuestMemory.unmap.Goals as goal

pub tables-preserved : goal.tables-preserved
unfolding memory_of
tables-preserved c = record {
  few = omega arith;
  memory =
      c.unmap_in_table.ensures
      ∙ ap (λ (m : Memory). with_pages m (c.args.page + c.tables.done) c.min-here.result None) c.tables.invariant.memory
      ∙ with_pages-more (memory_in c.args.self.now.directory) c.args.page c.tables.done c.min-here.result None;
}
