use Rattle.std.proofs.Common.{◌≡◌}
use Rattle.guest_memory.specs.Guest.{memory_of}
use Rattle.guest_machine.specs.Private.Setup.{mapped_below}
use Rattle.guest_machine.proofs.image_pages.map_pages.Given as goal

abbrev pub invariant-loop-page : goal.invariant-loop-page
invariant-loop-page l = memory_of l.memory ≡ mapped_below l.table l.page
