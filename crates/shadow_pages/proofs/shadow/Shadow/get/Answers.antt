use Rattle.std.proofs.Common.{◌/◌, ◌%◌, ◌<◌, ap, sym, ◌∙◌, subst, length, map, get_or, arith}
use Rattle.std.proofs.lemmas.List.{length-map, get_or-map}
use Rattle.shadow_pages.specs.Pages.{AreKept, Page, Pages, page_at, page_of, stamp_in}
use Rattle.shadow_pages.proofs.Lookups.{found, not_found}
use Rattle.shadow_pages.proofs.Places.{page_read, full_page}
use Rattle.shadow_pages.proofs.shadow.Shadow.get.Goals as goal

pub index-requires : goal.index-requires
index-requires g c =
    let pages_are = ap (λ (s : Pages). s.pages) c.self.view_is in
    let kept = subst (λ ps. AreKept c.self.inside.directory ps) pages_are c.self.invariant in
    let held = kept.indexed.held (c.number.result / 1024) c.in-Some.place (sym c.place.ensures ∙ c.in-Some.is) in
    let long = ap length (sym pages_are) ∙ length-map c.self.inside.pages.items _ ∙ sym c.self.inside.pages.ok.0 in
    subst (λ n. c.in-Some.place < n) long held.0

pub index-requires-in-Some : goal.index-requires-in-Some
index-requires-in-Some g c =
    let pages_are = ap (λ (s : Pages). s.pages) c.self.view_is in
    let kept = subst (λ ps. AreKept c.self.inside.directory ps) pages_are c.self.invariant in
    let held = kept.indexed.held (c.number.result / 1024) c.in-Some.place (sym c.place.ensures ∙ c.in-Some.is) in
    let page = c.index.result.now in
    let read = page_read (λ p. p.number) (λ p. map g.S.Stamp.number_of p.stamps.items) c.args.self.now.pages c.self.inside.pages.items c.in-Some.place page pages_are held.0 c.index.ensures in
    let long = page.stamps.ok.0 ∙ sym (length-map page.stamps.items g.S.Stamp.number_of) ∙ ap (λ (p : Page). length p.stamps) (sym read) ∙ full_page c.args.self.now.pages c.in-Some.place kept.full held.0 in
    omega (arith, long)

pub returns-in-Some : goal.returns-in-Some
returns-in-Some g c =
    let pages_are = ap (λ (s : Pages). s.pages) c.self.view_is in
    let kept = subst (λ ps. AreKept c.self.inside.directory ps) pages_are c.self.invariant in
    let said = sym c.place.ensures ∙ c.in-Some.is in
    let held = kept.indexed.held (c.number.result / 1024) c.in-Some.place said in
    let page = c.index.result.now in
    let read = page_read (λ p. p.number) (λ p. map g.S.Stamp.number_of p.stamps.items) c.args.self.now.pages c.self.inside.pages.items c.in-Some.place page pages_are held.0 c.index.ensures in
    let long = sym (length-map page.stamps.items g.S.Stamp.number_of) ∙ ap (λ (p : Page). length p.stamps) (sym read) ∙ full_page c.args.self.now.pages c.in-Some.place kept.full held.0 in
    let at = c.number-in-Some.result % 1024 in
    let within : at < length page.stamps.items = omega (arith, long) in
    let is_found = ap (λ o. stamp_in o (c.args.w % 1024)) (ap (λ n. page_of c.args.self.now.pages (n / 1024)) (sym c.number.ensures.same) ∙ found c.self.inside.directory c.args.self.now.pages kept.indexed (c.number.result / 1024) c.in-Some.place said) in
    ap g.S.Stamp.number_of c.index-in-Some.ensures
    ∙ sym (get_or-map g.S.Stamp.number_of page.stamps.items at c.index-in-Some.result.now 0 within)
    ∙ ap (λ (p : Page). get_or p.stamps at 0) (sym read)
    ∙ ap (λ n. get_or (page_at c.args.self.now.pages c.in-Some.place).stamps (n % 1024) 0) c.number-in-Some.ensures.same
    ∙ sym is_found

pub returns-in-None : goal.returns-in-None
returns-in-None g c =
    let kept = subst (λ ps. AreKept c.self.inside.directory ps) (ap (λ (s : Pages). s.pages) c.self.view_is) c.self.invariant in
    let none = ap (λ n. page_of c.args.self.now.pages (n / 1024)) (sym c.number.ensures.same) ∙ not_found c.self.inside.directory c.args.self.now.pages kept.indexed (c.number.result / 1024) (sym c.place.ensures ∙ c.in-None.is) in
    ap g.S.Stamp.number_of c.from_number.ensures ∙ g.met.S.Stamp.number_back 0 (omega arith) ∙ sym (ap (λ o. stamp_in o (c.args.w % 1024)) none)
