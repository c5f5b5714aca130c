use Rattle.std.proofs.Common.{All, map}
use Rattle.shadow_pages.specs.Directory.{HasTable}
use Rattle.shadow_pages.specs.Pages.{IsIndexed, Page}
use Rattle.shadow_pages.proofs.shadow.enter.Given as goal

abbrev pub invariant-loop-place : goal.invariant-loop-place
invariant-loop-place g l = record {
  indexed : IsIndexed l.directory (map {B = Page} (λ p. record { number = p.number; stamps = map g.S.Stamp.number_of p.stamps.items }) l.pages) l.place;
  tables : All (λ p. HasTable l.directory p.number) l.pages;
}
