use Rattle.std.proofs.Common.{◌≡◌, ◌&&◌, nat_le, nat_lt, ℕ, if◌then◌else◌, length, map}
use Rattle.std.specs.Prelude.{slice_index}
use Rattle.shadow_pages.proofs.shadow.fill_row.Given as goal

abbrev pub invariant-loop-at : goal.invariant-loop-at
invariant-loop-at g l = record {
  count : length l.row ≡ length l.fn.row;
  stamps : (k : ℕ) → slice_index (map g.S.Stamp.number_of l.row) k ≡ (if nat_le l.from k && nat_lt k l.at then g.S.Stamp.number_of l.s else slice_index (map g.S.Stamp.number_of l.fn.row) k);
}
