use Rattle.std.proofs.Common.{◌+◌, ◌≤◌, map, vec_len}
use Rattle.shadow_pages.specs.Pages.{AreFresh, Page}
use Rattle.shadow_pages.proofs.shadow.Shadow.fresh_pages.Given as goal

abbrev pub invariant-loop-number : goal.invariant-loop-number
invariant-loop-number g l = record {
  fresh : AreFresh l.self.pages (map {B = Page} (λ p. record { number = p.number; stamps = map g.S.Stamp.number_of p.stamps.items }) l.fresh.items) l.low l.number;
  few : vec_len l.fresh + l.low ≤ l.number;
}
