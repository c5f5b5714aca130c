use Rattle.std.proofs.Common.{◌≡◌, take, fold}
use Rattle.guest_memory.specs.Guest.{memory_of}
use Rattle.guest_memory.specs.Memory.{with_bytes}
use Rattle.guest_machine.specs.Private.Setup.{pages_of}
use Rattle.guest_machine.proofs.image_pages.write_segments.Given as goal

abbrev pub invariant-loop-segment : goal.invariant-loop-segment
invariant-loop-segment l = memory_of l.memory ≡ fold (λ m s. with_bytes m s.place s.bytes) (pages_of l.segments) (take l.segment-index l.segments)
