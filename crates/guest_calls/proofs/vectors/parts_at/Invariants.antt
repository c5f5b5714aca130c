use Rattle.std.proofs.Common.{◌≡◌, vec_len}
use Rattle.guest_memory.specs.Guest.{memory_of}
use Rattle.guest_calls.specs.Vectors.{parts_at}
use Rattle.guest_calls.proofs.vectors.parts_at.Given as goal

abbrev pub invariant-loop-i : goal.invariant-loop-i
invariant-loop-i l = record {
  parts : l.parts.items ≡ parts_at (memory_of l.memory) l.at l.i;
  count : vec_len l.parts ≡ l.i;
}
