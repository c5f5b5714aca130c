use Rattle.std.proofs.Common.{◌∙◌, ◌<◌, ◌≤◌, ap, arith, get_or, length, map}
use Rattle.std.proofs.lemmas.List.{length-map, length-set, map-set}
use Rattle.shadow_pages.proofs.Filled.{row_more}
use Rattle.shadow_pages.proofs.shadow.fill_row.Goals as goal

pub loop-at-preserved : goal.loop-at-preserved
loop-at-preserved g c =
    let f = g.S.Stamp.number_of in
    let row = c.loop-at.row in
    let at = c.loop-at.at in
    let same = c.loop-at.invariant.count in
    let size = length-map row f in
    let within : at < length (map f row) = omega arith in
    let low : c.args.from ≤ at = omega arith in
    record {
      count = length-set row at c.args.s ∙ same;
      stamps = λ k. ap (λ xs. get_or xs k 0) (map-set f row at c.args.s) ∙ row_more (map f row) (map f c.args.row.now) c.args.from at (f c.args.s) within low c.loop-at.invariant.stamps k;
    }
