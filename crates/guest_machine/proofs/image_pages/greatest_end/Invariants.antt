use Rattle.std.proofs.Common.{◌≡◌, ◌≤◌, take}
use Rattle.guest_machine.specs.Start.{greatest_end}
use Rattle.guest_machine.proofs.image_pages.greatest_end.Given as goal

abbrev pub invariant-loop-segment : goal.invariant-loop-segment
invariant-loop-segment l = record {
  value : l.end ≡ greatest_end (take l.segment-index l.segments);
  bound : l.end ≤ 0x40000000;
}
