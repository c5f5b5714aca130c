use Rattle.std.proofs.Common.{◌≡◌, [], ap, arith, get_or, length, map, rules, ◌∙◌}
use Rattle.std.proofs.lemmas.List.{length-map}
use Rattle.cost_points.proofs.InBlocks.{read_block}
use Rattle.cost_points.proofs.Indexed.{before_next, goes_on}
use Rattle.cost_points.proofs.indexes.place_of.Goals as goal

pub walk-preserved : goal.walk-preserved
walk-preserved g c =
    let bs = map (λ v. v.items) c.args.blocks.now in
    let b = c.walk.block in
    let many = length-map c.args.blocks.now (λ v. v.items) in
    let own = read_block (λ v. v.items) c.args.blocks.now b c.index-blocks-block.result c.walk.invariant.0 c.index-blocks-block.is in
    let own_in = read_block (λ v. v.items) c.args.blocks.now b c.index-blocks-block-in-walk.result c.walk.invariant.0 c.index-blocks-block-in-walk.is in
    let long : c.len.result ≡ length c.index-blocks-block.result.items = search rules in
    let long_in : c.len-at.result ≡ length c.index-blocks-block-in-walk.result.items = search rules in
    let tested : c.len.result ≡ length (get_or (map (λ v. v.items) c.args.blocks.now) c.walk.block []) = long ∙ ap length own in
    let passed : c.len-at.result ≡ length (get_or (map (λ v. v.items) c.args.blocks.now) c.walk.block []) = long_in ∙ ap length own_in in
    let more = goes_on bs b c.walk.at c.args.i (omega (arith, c.walk.invariant.0, many)) c.walk.invariant.1 c.requires.inside (omega (arith, tested, c.walk-test.true)) in (
      omega (arith, more, many),
      omega (arith, before_next bs b (omega (arith, c.walk.invariant.0, many)), c.walk.invariant.1, passed, tested, c.walk-test.true),
    )
