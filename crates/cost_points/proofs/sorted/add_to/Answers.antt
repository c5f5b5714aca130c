use Rattle.std.proofs.Common.{Global, List, Vec, ap, map, refl, set, subst, ◌∙◌}
use Rattle.cost_points.specs.declared.point.Point.{Point}
use Rattle.cost_points.specs.Places.{IsGapOf, IsPlaceOf}
use Rattle.cost_points.specs.Private.Blocks.{with_item}
use Rattle.cost_points.specs.Merging.{merged}
use Rattle.cost_points.specs.Search.{HasRoom}
use Rattle.cost_points.proofs.InBlocks.{filled_changed, item_changed, item_has, nowhere, put_new}
use Rattle.cost_points.proofs.sorted.add_to.Goals as goal

pub add-requires-clause-room : goal.add-requires-clause-room
add-requires-clause-room c =
    let place = subst (λ (vs : List (Vec Point Global)). IsPlaceOf (λ p. p.size) (map (λ b. b.items) vs) c.args.point.size c.in-Ok.place.block c.in-Ok.place.at) c.deref.ensures.value c.in-Ok.ensures in
    item_has (λ b. b.items) (λ (p : Point). p.size) HasRoom c.args.points.now.items c.args.point.size c.in-Ok.place.block c.in-Ok.place.at c.index_mut-block.result.now c.index_mut-tally.result.now
    place c.index_mut-block.ensures.value c.index_mut-tally.ensures.value c.requires.room

pub returns-in-Ok-clause-ok : goal.returns-in-Ok-clause-ok
returns-in-Ok-clause-ok c =
    let p = c.args.point in
    let place = subst (λ (vs : List (Vec Point Global)). IsPlaceOf (λ p. p.size) (map (λ b. b.items) vs) c.args.point.size c.in-Ok.place.block c.in-Ok.place.at) c.deref.ensures.value c.in-Ok.ensures in
    item_changed (λ b. b.items) (λ (q : Point). q.size) p.size (λ q. merged q c.args.point) p c.args.points.now.items c.in-Ok.place.block c.in-Ok.place.at c.index_mut-block.result.now _ c.index_mut-tally.result.now
    c.requires.rising place c.index_mut-block.ensures.value c.index_mut-tally.ensures.value (ap (set c.index_mut-block.result.now.items c.in-Ok.place.at) c.add.ensures)

pub returns-in-Ok-clause-filled : goal.returns-in-Ok-clause-filled
returns-in-Ok-clause-filled c =
    let place = subst (λ (vs : List (Vec Point Global)). IsPlaceOf (λ p. p.size) (map (λ b. b.items) vs) c.args.point.size c.in-Ok.place.block c.in-Ok.place.at) c.deref.ensures.value c.in-Ok.ensures in
    filled_changed (λ b. b.items) (λ (q : Point). q.size) c.args.points.now.items c.args.point.size c.in-Ok.place.block c.in-Ok.place.at c.index_mut-block.result.now _ c.add.new.self c.requires.filled place c.index_mut-block.ensures.value refl

pub returns-in_err-last-in-Err-clause-no_allocation : goal.returns-in_err-last-in-Err-clause-no_allocation
returns-in_err-last-in-Err-clause-no_allocation c place stands =
    let gap = subst (λ (vs : List (Vec Point Global)). IsGapOf (λ p. p.size) (map (λ b. b.items) vs) c.args.point.size c.in-Err.place.block c.in-Err.place.at) c.deref.ensures.value c.in-Err.ensures in
    absurd (nowhere (λ (q : Point). q.size) (map (λ b. b.items) c.args.points.now.items) c.args.point.size c.in-Err.place.block c.in-Err.place.at place gap stands)

pub returns-in_ok-last-in-Err-clause-ok : goal.returns-in_ok-last-in-Err-clause-ok
returns-in_ok-last-in-Err-clause-ok c =
    let p = c.args.point in
    let bs = map (λ b. b.items) c.args.points.now.items in
    let gap = subst (λ (vs : List (Vec Point Global)). IsGapOf (λ p. p.size) (map (λ b. b.items) vs) c.args.point.size c.in-Err.place.block c.in-Err.place.at) c.deref.ensures.value c.in-Err.ensures in
    c.in_ok-last-in-Err.ensures.ok ∙ ap (with_item bs c.in-Err.place.block c.in-Err.place.at) c.of_point.ensures ∙ put_new (λ (q : Point). q.size) p.size (λ q. merged q c.args.point) p bs c.in-Err.place.block c.in-Err.place.at gap
