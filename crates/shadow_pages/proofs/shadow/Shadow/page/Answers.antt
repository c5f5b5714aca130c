use Rattle.std.proofs.Common.{◌∙◌, ap, sym, subst, map, length}
use Rattle.std.proofs.lemmas.List.{length-map}
use Rattle.shadow_pages.specs.Pages.{AreKept, Page, Pages}
use Rattle.shadow_pages.proofs.Places.{page_read, full_page}
use Rattle.shadow_pages.proofs.shadow.Shadow.page.Goals as goal

pub returns-clause-count : goal.returns-clause-count
returns-clause-count g c =
    let pages_are = ap (λ (s : Pages). s.pages) c.self.view_is in
    let kept = subst (λ ps. AreKept c.self.inside.directory ps) pages_are c.self.invariant in
    let page = c.index-page.result.now in
    let read = page_read (λ p. p.number) (λ p. map g.S.Stamp.number_of p.stamps.items) c.args.self.now.pages c.self.inside.pages.items c.args.i page pages_are c.requires c.index-page.ensures in
    ap length c.as_slice.ensures.value ∙ sym (length-map page.stamps.items g.S.Stamp.number_of) ∙ ap (λ (p : Page). length p.stamps) (sym read) ∙ full_page c.args.self.now.pages c.args.i kept.full c.requires
