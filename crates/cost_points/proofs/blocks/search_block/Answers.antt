use Rattle.std.proofs.Common.{rules}
use Rattle.std.proofs.lemmas.List.Sorted.{answers_always}
use Rattle.cost_points.proofs.Searched.{searched_in}
use Rattle.cost_points.proofs.blocks.search_block.Goals as goal

pub returns : goal.returns
returns g c =
    let facts = c.binary_search_by_key.ensures in
    searched_in g.T.Keyed.key_of c.args.block.now c.requires c.args.key _ facts.bound
    (facts.position g.T.Keyed.key_of (answers_always _ _ _ (λ f a r g called. search rules)))
