use Rattle.std.proofs.Common.{ap, arith, get_or, length, map, refl, subst, sym, ◌∙◌}
use Rattle.std.specs.Prelude.{slice_get}
use Rattle.std.proofs.lemmas.List.{length-map}
use Rattle.std.proofs.lemmas.Option.{slice_get_read}
use Rattle.cost_points.specs.Joined.{joined}
use Rattle.cost_points.specs.Private.Blocks.{IsIndexOf}
use Rattle.cost_points.proofs.InBlocks.{read_block}
use Rattle.cost_points.proofs.Indexed.{item_at}
use Rattle.cost_points.proofs.by_key.ByKey.get.Goals as goal

pub returns : goal.returns
returns g c =
    let vs = c.self.inside.blocks.items in
    let bs = map (λ b. b.items) c.self.inside.blocks.items in
    let place = c.place_of-place.result in
    let found = c.index.result.now in
    let is = subst (λ us. IsIndexOf (map (λ b. b.items) us) c.args.i c.place_of-place.result.block c.place_of-place.result.at) c.deref.ensures.value c.place_of-place.ensures in
    let own = read_block (λ b. b.items) vs place.block c.index-block.result.now (omega (arith, is.block, length-map vs (λ b. b.items))) c.index-block.ensures in
    let all = item_at bs c.args.i place.block place.at found is (c.index.ensures ∙ ap (λ ys. get_or ys place.at found) own) in
    ap (λ us. slice_get (joined us) c.args.i) (sym c.self.view_is) ∙ slice_get_read (joined bs) (length (joined bs)) c.args.i found refl all.0 all.1
