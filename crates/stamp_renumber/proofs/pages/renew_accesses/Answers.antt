use Rattle.std.proofs.Common.{◌∙◌, ◌<◌, length, map, ap, refl, arith}
use Rattle.std.proofs.lemmas.List.{length-set}
use Rattle.shadow_pages.specs.Pages.{Page, covers, stamp_at}
use Rattle.stamp_renumber.specs.Private.Rows.{renewed_accesses}
use Rattle.stamp_renumber.proofs.Words.{all_pages, covers-map, page_more, renewed_word}
use Rattle.stamp_renumber.proofs.pages.renew_accesses.Goals as goal

pub loop-i-preserved : goal.loop-i-preserved
loop-i-preserved g c =
    let f : Page → Page = renewed_accesses (map g.S.Stamp.number_of c.args.starts.now) c.args.writes.now.pages in
    let old = c.args.shadow.now.pages in
    let lt : c.loop-i.i < length old = omega (arith, c.loop-i-test.true, c.pages-i-end.ensures.value) in
    record {
      long = ap length c.renew_access_page.ensures ∙ length-set c.loop-i.shadow.pages c.loop-i.i _ ∙ c.loop-i.invariant.long;
      cost = omega (arith, c.count.ensures, c.loop-i.invariant.cost);
      pages = c.renew_access_page.ensures ∙ page_more f old c.loop-i.shadow.pages c.loop-i.i lt c.loop-i.invariant.pages c.loop-i.invariant.long;
    }

pub returns-clause-stamps : goal.returns-clause-stamps
returns-clause-stamps g c = λ w.
    let starts = map g.S.Stamp.number_of c.args.starts.now in
    let writes = c.args.writes.now.pages in
    let old = c.args.shadow.now.pages in
    let all = all_pages (renewed_accesses starts writes) old c.loop-i.shadow.pages c.loop-i.i (omega (arith, c.loop-i-test.false, c.pages-i-end.ensures.value)) c.loop-i.invariant.pages in
    ap (λ ps. stamp_at ps w) all ∙ renewed_word starts writes old w c.pages-i-end.ensures.full

pub returns-clause-covered : goal.returns-clause-covered
returns-clause-covered g c = λ w.
    let starts = map g.S.Stamp.number_of c.args.starts.now in
    let writes = c.args.writes.now.pages in
    let old = c.args.shadow.now.pages in
    let all = all_pages (renewed_accesses starts writes) old c.loop-i.shadow.pages c.loop-i.i (omega (arith, c.loop-i-test.false, c.pages-i-end.ensures.value)) c.loop-i.invariant.pages in
    ap (λ ps. covers ps w) all ∙ covers-map (renewed_accesses starts writes) (λ p. refl) old w
