use Rattle.std.proofs.Common.{◌<◌, [], ap, arith, get_or, length, map, refl, subst, sym, ◌∙◌}
use Rattle.std.proofs.lemmas.List.{length-map}
use Rattle.cost_points.specs.Indexes.{AreIndexed}
use Rattle.cost_points.specs.Places.{with_changed}
use Rattle.cost_points.proofs.InBlocks.{block_changed, read_block}
use Rattle.cost_points.proofs.Indexed.{indexed_changed}
use Rattle.cost_points.proofs.by_key.ByKey.at_mut.Goals as goal

pub invariant_of-self-lent : goal.invariant_of-self-lent
invariant_of-self-lent g c = λ w.
    let vs = c.self.inside.blocks.items in
    let place = c.args.place in
    let inside : c.args.place.block < length c.self.inside.blocks.items = omega (arith, c.requires.block, ap length c.self.view_is, length-map vs (λ b. b.items)) in
    subst (λ bs. AreIndexed bs c.self.inside.count c.self.inside.starts.items)
    (sym (block_changed (λ b. b.items) vs place.block place.at c.index_mut-block.result.now _ w inside c.index_mut-block.ensures.value refl))
    (indexed_changed (map (λ b. b.items) vs) c.self.inside.count c.self.inside.starts.items place.block place.at w c.self.invariant
    (subst (λ bs. c.args.place.at < length (get_or bs c.args.place.block [])) (sym c.self.view_is) c.requires.at))

pub returns : goal.returns
returns g c =
    let vs = c.self.inside.blocks.items in
    let place = c.args.place in
    let inside : c.args.place.block < length c.self.inside.blocks.items = omega (arith, c.requires.block, ap length c.self.view_is, length-map vs (λ b. b.items)) in
    let own = read_block (λ b. b.items) vs place.block c.index_mut-block.result.now inside c.index_mut-block.ensures.value in (
      (
        refl,
        λ w.
            block_changed (λ b. b.items) vs place.block place.at c.index_mut-block.result.now _ w inside c.index_mut-block.ensures.value refl
            ∙ ap (λ bs. with_changed bs place.block place.at w) c.self.view_is,
      ),
      record {
        writes_back = tt;
        found = c.index_mut.ensures.value ∙ ap (λ ys. get_or ys place.at c.index_mut.result.now) (own ∙ ap (λ bs. get_or bs place.block []) c.self.view_is);
      },
    )
