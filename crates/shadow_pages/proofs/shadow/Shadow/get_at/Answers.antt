use Rattle.std.proofs.Common.{◌/◌, ◌%◌, ◌<◌, ap, sym, ◌∙◌, subst, length, map, get_or, arith}
use Rattle.std.proofs.lemmas.List.{get_or-map, length-map}
use Rattle.shadow_pages.specs.Pages.{AreKept, Page, Pages, page_at, stamp_in}
use Rattle.shadow_pages.proofs.Lookups.{only_page}
use Rattle.shadow_pages.proofs.Places.{page_read, full_page}
use Rattle.shadow_pages.proofs.shadow.Shadow.get_at.Goals as goal

pub index-requires : goal.index-requires
index-requires g c =
    let pages_are = ap (λ (s : Pages). s.pages) c.self.view_is in
    let long = ap length (sym pages_are) ∙ length-map c.self.inside.pages.items _ ∙ sym c.self.inside.pages.ok.0 in
    subst (λ n. c.args.place < n) long c.requires.within

pub index-requires-2 : goal.index-requires-2
index-requires-2 g c =
    let pages_are = ap (λ (s : Pages). s.pages) c.self.view_is in
    let kept = subst (λ ps. AreKept c.self.inside.directory ps) pages_are c.self.invariant in
    let page = c.index.result.now in
    let read = page_read (λ p. p.number) (λ p. map g.S.Stamp.number_of p.stamps.items) c.args.self.now.pages c.self.inside.pages.items c.args.place page pages_are c.requires.within c.index.ensures in
    let long = page.stamps.ok.0 ∙ sym (length-map page.stamps.items g.S.Stamp.number_of) ∙ ap (λ (p : Page). length p.stamps) (sym read) ∙ full_page c.args.self.now.pages c.args.place kept.full c.requires.within in
    omega (arith, long)

pub returns : goal.returns
returns g c =
    let pages_are = ap (λ (s : Pages). s.pages) c.self.view_is in
    let kept = subst (λ ps. AreKept c.self.inside.directory ps) pages_are c.self.invariant in
    let page = c.index.result.now in
    let read = page_read (λ p. p.number) (λ p. map g.S.Stamp.number_of p.stamps.items) c.args.self.now.pages c.self.inside.pages.items c.args.place page pages_are c.requires.within c.index.ensures in
    let long = sym (length-map page.stamps.items g.S.Stamp.number_of) ∙ ap (λ (p : Page). length p.stamps) (sym read) ∙ full_page c.args.self.now.pages c.args.place kept.full c.requires.within in
    let at = c.number.result % 1024 in
    let within : at < length page.stamps.items = omega (arith, long) in
    let is_found = ap (λ o. stamp_in o (c.args.w % 1024)) (only_page c.args.self.now.pages (c.args.w / 1024) c.args.place c.requires.within c.requires.page c.requires.only) in
    ap g.S.Stamp.number_of c.index-2.ensures
    ∙ sym (get_or-map g.S.Stamp.number_of page.stamps.items at c.index-2.result.now 0 within)
    ∙ ap (λ (p : Page). get_or p.stamps at 0) (sym read)
    ∙ ap (λ n. get_or (page_at c.args.self.now.pages c.args.place).stamps (n % 1024) 0) c.number.ensures.same
    ∙ sym is_found
