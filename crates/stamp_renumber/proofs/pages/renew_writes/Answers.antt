use Rattle.std.proofs.Common.{◌∙◌, ◌<◌, length, map, ap, refl, arith}
use Rattle.std.proofs.lemmas.List.{length-set}
use Rattle.shadow_pages.specs.Pages.{Page, covers, stamp_at}
use Rattle.stamp_renumber.specs.Private.Rows.{renewed_writes}
use Rattle.stamp_renumber.proofs.Words.{all_pages, covers-map, page_more, rewritten_word}
use Rattle.stamp_renumber.proofs.pages.renew_writes.Goals as goal

pub loop-i-preserved : goal.loop-i-preserved
loop-i-preserved g c =
    let f : Page → Page = renewed_writes (map g.S.Stamp.number_of c.args.starts.now) in
    let old = c.args.writes.now.pages in
    let lt : c.loop-i.i < length old = omega (arith, c.loop-i-test.true, c.pages-i-end.ensures.value) in
    record {
      long = ap length c.renew_write_page.ensures ∙ length-set c.loop-i.writes.pages c.loop-i.i _ ∙ c.loop-i.invariant.long;
      cost = omega (arith, c.count.ensures, c.loop-i.invariant.cost);
      pages = c.renew_write_page.ensures ∙ page_more f old c.loop-i.writes.pages c.loop-i.i lt c.loop-i.invariant.pages c.loop-i.invariant.long;
    }

pub returns-clause-stamps : goal.returns-clause-stamps
returns-clause-stamps g c = λ w.
    let starts = map g.S.Stamp.number_of c.args.starts.now in
    let old = c.args.writes.now.pages in
    let all = all_pages (renewed_writes starts) old c.loop-i.writes.pages c.loop-i.i (omega (arith, c.loop-i-test.false, c.pages-i-end.ensures.value)) c.loop-i.invariant.pages in
    ap (λ ps. stamp_at ps w) all ∙ rewritten_word starts old w

pub returns-clause-covered : goal.returns-clause-covered
returns-clause-covered g c = λ w.
    let starts = map g.S.Stamp.number_of c.args.starts.now in
    let old = c.args.writes.now.pages in
    let all = all_pages (renewed_writes starts) old c.loop-i.writes.pages c.loop-i.i (omega (arith, c.loop-i-test.false, c.pages-i-end.ensures.value)) c.loop-i.invariant.pages in
    ap (λ ps. covers ps w) all ∙ covers-map (renewed_writes starts) (λ p. refl) old w
