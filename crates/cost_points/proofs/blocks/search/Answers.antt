use Rattle.std.proofs.Common.{◌<◌, arith, length, map, subst, sym, ◌∙◌}
use Rattle.std.proofs.lemmas.List.{length-map}
use Rattle.cost_points.specs.Keys.{IsRising}
use Rattle.cost_points.proofs.InBlocks.{read_block, rising_block}
use Rattle.cost_points.proofs.blocks.search.Goals as goal

pub search_block-requires : goal.search_block-requires
search_block-requires g c =
    let b = c.block_of-block.result in
    let inside : c.block_of-block.result < length c.args.blocks.now = omega (arith, c.block_of-block.ensures.inside, length-map c.args.blocks.now (λ v. v.items)) in
    subst (λ ys. IsRising (map g.T.Keyed.key_of ys))
    (sym (c.deref.ensures.value ∙ read_block (λ v. v.items) c.args.blocks.now b c.index-blocks-block.result inside c.index-blocks-block.is))
    (rising_block g.T.Keyed.key_of (map (λ v. v.items) c.args.blocks.now) b c.block_of-block.ensures.inside c.requires.rising)
