use Rattle.std.proofs.Common.{◌≡◌, ◌/◌, ◌%◌, ◌+◌, ◌-◌, ap, ap₂, sym, ◌∙◌, map, get_or, arith}
use Rattle.shadow_pages.specs.Pages.{Page, Pages, page_of, stamp_in}
use Rattle.shadow_pages.proofs.Lookups.{only_page}
use Rattle.shadow_pages.proofs.Places.{page_read, part_read}
use Rattle.shadow_pages.proofs.shadow.Shadow.row.Goals as goal

pub returns-clause-stamps : goal.returns-clause-stamps
returns-clause-stamps g c = λ k lt.
    let pages = c.args.self.now.pages in
    let pages_are = ap (λ (s : Pages). s.pages) c.self.view_is in
    let place = c.place.ensures in
    let page = c.index.result.now in
    let read = page_read (λ p. p.number) (λ p. map g.S.Stamp.number_of p.stamps.items) pages c.self.inside.pages.items c.place.result page pages_are place.within c.index.ensures in
    let a = c.number.result % 1024 in
    let same = c.number.ensures.same in
    let within = c.requires.within in
    let count : a + c.args.count - a ≡ c.args.count = omega arith in
    let number : (c.args.first + k) / 1024 ≡ c.args.first / 1024 = omega (arith, lt, within) in
    let rest : a + k ≡ (c.args.first + k) % 1024 = omega (arith, lt, within, same) in
    let found = ap (λ n. page_of pages n) number ∙ only_page pages (c.args.first / 1024) c.place.result place.within place.page place.only in
    part_read g.S.Stamp.number_of c.deref.result.now a (a + c.args.count - a) k (omega (arith, lt, count))
    ∙ ap₂ (λ xs i. get_or xs i 0) (ap (λ xs. map g.S.Stamp.number_of xs) c.deref.ensures.value ∙ ap (λ (p : Page). p.stamps) (sym read)) rest
    ∙ sym (ap (λ o. stamp_in o ((c.args.first + k) % 1024)) found)
