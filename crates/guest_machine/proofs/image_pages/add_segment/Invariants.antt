use Rattle.std.proofs.Common.{◌≡◌, ◌<◌, ℕ, None, length}
use Rattle.std.specs.Prelude.{slice_index_or}
use Rattle.guest_machine.proofs.ImagePages.{filled}
use Rattle.guest_machine.proofs.image_pages.add_segment.Given as goal

abbrev pub invariant-loop-page : goal.invariant-loop-page
invariant-loop-page l = record {
  whole : length l.table.items ≡ 0x40000;
  rights : (q : ℕ) → q < 0x40000 → slice_index_or l.table.items q None ≡ filled l.fn.segment l.page (slice_index_or l.fn.table.items q None) q;
}
