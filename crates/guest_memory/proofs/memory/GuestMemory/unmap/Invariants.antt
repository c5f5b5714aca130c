use Rattle.std.proofs.Common.{◌≡◌, ◌≤◌, ◌-◌, None}
use Rattle.guest_memory.specs.Memory.{with_pages}
use Rattle.guest_memory.specs.State.{memory_in}
use Rattle.guest_memory.proofs.memory.GuestMemory.unmap.Given as goal

abbrev pub invariant-tables : goal.invariant-tables
invariant-tables l = record {
  few : l.done ≤ l.count;
  memory : memory_in l.self.directory ≡ with_pages (memory_in l.fn.self.directory) l.page l.done None;
}

abbrev pub decreases-tables : goal.decreases-tables
decreases-tables l = l.count - l.done
