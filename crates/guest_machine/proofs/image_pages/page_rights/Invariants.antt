use Rattle.std.proofs.Common.{◌≡◌, ◌<◌, ℕ, None, length, take}
use Rattle.std.specs.Prelude.{slice_index_or}
use Rattle.guest_machine.specs.Start.{segment_rights}
use Rattle.guest_machine.proofs.image_pages.page_rights.Given as goal

abbrev pub invariant-loop-segment : goal.invariant-loop-segment
invariant-loop-segment l = record {
  whole : length l.table.items ≡ 0x40000;
  each : (page : ℕ) → page < 0x40000 → slice_index_or l.table.items page None ≡ segment_rights (take l.segment-index l.segments) page;
}
