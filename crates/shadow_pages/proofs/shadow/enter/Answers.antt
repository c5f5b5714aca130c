use Rattle.std.proofs.Common.{◌≡◌, ◌∙◌, ◌<◌, ap, arith, length, map, refl, subst, sym}
use Rattle.std.proofs.lemmas.List.{length-map}
use Rattle.shadow_pages.specs.declared.shadow.Page.{Page as Kept}
use Rattle.shadow_pages.specs.Directory.{entry}
use Rattle.shadow_pages.specs.Pages.{IsIndexed, Page}
use Rattle.shadow_pages.proofs.Fresh.{indexed_more}
use Rattle.shadow_pages.proofs.Places.{page_read, seen}
use Rattle.shadow_pages.proofs.shadow.enter.Goals as goal

pub loop-place-preserved : goal.loop-place-preserved
loop-place-preserved g c =
    let look : Kept g.row.S.Denot → Page = seen (λ p. p.number) (λ p. map g.S.Stamp.number_of p.stamps.items) in
    let pages = map look c.args.pages.now in
    let place = c.loop-place.place in
    let inside : place < length c.args.pages.now = omega arith in
    let within : place < length pages = omega (arith, inside, length-map c.args.pages.now look) in
    let read = page_read (λ p. p.number) (λ p. map g.S.Stamp.number_of p.stamps.items) pages c.args.pages.now place c.index-pages-place.result refl within c.index-pages-place.is in
    let number = ap (λ (p : Page). p.number) read ∙ ap (λ (p : Kept g.row.S.Denot). p.number) c.index-pages-place.is in
    let put = c.put.ensures in
    record {
      indexed = indexed_more c.loop-place.directory c.put.new.self pages place c.loop-place.invariant.indexed c.requires.distinct within
          (ap (λ n. entry c.put.new.self n) number ∙ put.this)
          (λ n ne. put.others n (λ e. ne (e ∙ sym number)));
      tables = λ k d lt. put.tables _ (c.loop-place.invariant.tables k d lt);
    }

pub returns : goal.returns
returns g c =
    let look : Kept g.row.S.Denot → Page = seen (λ p. p.number) (λ p. map g.S.Stamp.number_of p.stamps.items) in
    let done : c.loop-place.place ≡ length c.args.pages.now = omega arith in
    subst (λ n. IsIndexed c.loop-place.directory (map look c.args.pages.now) n) done c.loop-place.invariant.indexed
