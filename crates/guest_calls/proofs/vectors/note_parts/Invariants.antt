use Rattle.std.proofs.Common.{◌≡◌, ◌≤◌, ◌+◌, ◌++◌, take, length}
use Rattle.guest_kernel.specs.Copies.{KeepsRoom}
use Rattle.guest_calls.specs.Vectors.{read_events}
use Rattle.guest_calls.proofs.vectors.note_parts.Given as goal

abbrev pub invariant-loop-p : goal.invariant-loop-p
invariant-loop-p l = record {
  noted : l.events.list ≡ l.fn.events.list ++ read_events l.tid (take l.p-index l.parts);
  room : length l.parts ≤ l.events.room + l.p-index;
  kept : KeepsRoom l.fn.events l.events;
}
