use Rattle.std.proofs.Common.{◌≡◌, true, ◌≤◌, ◌+◌, drop, length}
use Rattle.guest_memory.specs.Guest.{memory_of}
use Rattle.rv_exec.specs.Accesses.{can_write}
use Rattle.guest_kernel.specs.Copies.{KeepsRoom}
use Rattle.guest_calls.specs.Outcome.{guest_of}
use Rattle.guest_kernel.specs.Parts.{all_in_reach, total}
use Rattle.guest_calls.specs.Vectors.{filled_parts}
use Rattle.guest_calls.proofs.vectors.fill_parts.Given as goal

abbrev pub invariant-loop-p : goal.invariant-loop-p
invariant-loop-p l = record {
  filled : filled_parts (drop l.p-index l.parts) l.rest (guest_of l.memory l.held l.events) ≡ filled_parts l.parts l.bytes (guest_of l.fn.memory l.fn.held l.fn.events);
  reach : all_in_reach (can_write (memory_of l.memory)) (drop l.p-index l.parts) ≡ true;
  all : total (drop l.p-index l.parts) ≤ length l.rest;
  room : length l.parts ≤ l.events.room + l.p-index;
  kept : KeepsRoom l.fn.events l.events;
}
