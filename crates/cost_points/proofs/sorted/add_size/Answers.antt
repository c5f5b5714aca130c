use Rattle.std.proofs.Common.{[], ◌∷◌, ap, map, ◌∙◌}
use Rattle.cost_points.specs.declared.point.Point.{Point}
use Rattle.cost_points.specs.Private.Blocks.{with_item}
use Rattle.cost_points.specs.Merging.{merged}
use Rattle.cost_points.specs.Points.{point_of}
use Rattle.cost_points.proofs.InBlocks.{put_new}
use Rattle.cost_points.proofs.sorted.add_size.Goals as goal

pub returns-clause-ok : goal.returns-clause-ok
returns-clause-ok c =
    let p = point_of c.args.ended.size (c.args.ended ∷ []) in
    let bs = map (λ b. b.items) c.args.points.now.items in
    c.in_ok-last.ensures.ok
    ∙ ap (with_item bs c.args.place.block c.args.place.at) (c.of_point.ensures ∙ c.of_one.ensures)
    ∙ put_new (λ (q : Point). q.size) p.size (λ q. merged q p) p bs c.args.place.block c.args.place.at c.requires.gap
