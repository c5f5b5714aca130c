use Rattle.std.proofs.Common.{◌≡◌, ◌∙◌, ◌/◌, ap, arith, map, sym, Some}
use Rattle.std.proofs.lemmas.List.{length-map}
use Rattle.shadow_pages.specs.Pages.{changed, page_of, refilled, stamp_at}
use Rattle.shadow_pages.proofs.CallerLemmas.{written_cover}
use Rattle.shadow_pages.proofs.Filled.{page_filled}
use Rattle.shadow_pages.proofs.shadow.Shadow.fill_page.Goals as goal

pub returns-clause-stamps : goal.returns-clause-stamps
returns-clause-stamps g c = λ w.
    let f = g.S.Stamp.number_of in
    let pages = c.args.self.now.pages in
    let row = c.page_of_mut-row.result.now in
    let new = c.fill_row.new.row in
    let at : c.of.result / 1024 ≡ c.args.number = omega arith in
    let found = ap (λ n. page_of pages n) (sym at) ∙ c.page_of_mut-row.ensures.value ∙ ap (λ n. Some (record { number = n; stamps = map f row })) at in
    let long = length-map new f ∙ c.fill_row.ensures.count ∙ sym (length-map row f) in
    ap (λ n. stamp_at (changed pages n (λ xs. refilled xs (map f new))) w) at
    ∙ page_filled pages c.args.number (map f row) (map f new) _ _ c.args.first c.args.count (f c.args.s) found long c.fill_row.ensures.stamps
    (record { low = omega arith; cut = λ h. omega arith; high = omega arith; short = λ h. omega arith; size = omega arith })
    w

pub returns-clause-covered : goal.returns-clause-covered
returns-clause-covered g c = λ w. written_cover c.args.self.now.pages (c.of.result / 1024) (map g.S.Stamp.number_of c.fill_row.new.row) w
