use Rattle.std.proofs.Common.{◌≡◌, take, length}
use Rattle.guest_memory.specs.Guest.{memory_of}
use Rattle.guest_kernel.specs.Parts.{bytes_of, total}
use Rattle.guest_kernel.proofs.parts.copy_parts.Given as goal

abbrev pub invariant-loop-p : goal.invariant-loop-p
invariant-loop-p l = record {
  count : l.count ≡ total (take l.p-index l.parts);
  bytes : take l.count l.front ≡ bytes_of (memory_of l.memory) (take l.p-index l.parts);
  room : length l.front ≡ length l.fn.front;
}
