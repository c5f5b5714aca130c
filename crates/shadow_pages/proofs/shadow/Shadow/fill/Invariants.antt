use Rattle.std.proofs.Common.{◌≡◌, ◌/◌, ◌&&◌, nat_lt, ℕ, if◌then◌else◌, length}
use Rattle.shadow_pages.specs.Pages.{covers, in_range, stamp_at}
use Rattle.shadow_pages.proofs.shadow.Shadow.fill.Given as goal

abbrev pub invariant-loop-number : goal.invariant-loop-number
invariant-loop-number g l = record {
  stamps : (w : ℕ) → stamp_at l.self.pages w ≡ (if nat_lt (w / 1024) l.number && in_range l.first l.count w then g.S.Stamp.number_of l.s else stamp_at l.fn.self.pages w);
  covered : (w : ℕ) → covers l.self.pages w ≡ covers l.fn.self.pages w;
  pages : length l.self.pages ≡ length l.fn.self.pages;
}
