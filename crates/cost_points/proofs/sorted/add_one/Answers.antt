use Rattle.std.proofs.Common.{[], ◌∷◌, Global, List, Vec, ap, map, refl, set, subst}
use Rattle.cost_points.specs.declared.point.Point.{Point}
use Rattle.cost_points.specs.Places.{IsGapOf, IsPlaceOf}
use Rattle.cost_points.specs.Merging.{merged}
use Rattle.cost_points.specs.Points.{point_of}
use Rattle.cost_points.specs.Search.{HasRoom}
use Rattle.cost_points.proofs.InBlocks.{filled_changed, item_changed, item_has, item_key, nowhere}
use Rattle.cost_points.proofs.sorted.add_one.Goals as goal

pub add_one-requires-clause-room : goal.add_one-requires-clause-room
add_one-requires-clause-room c =
    let place = subst (λ (vs : List (Vec Point Global)). IsPlaceOf (λ p. p.size) (map (λ b. b.items) vs) c.args.ended.now.size c.in-Ok.place.block c.in-Ok.place.at) c.deref.ensures.value c.in-Ok.ensures in
    item_has (λ b. b.items) (λ (p : Point). p.size) HasRoom c.args.points.now.items c.args.ended.now.size c.in-Ok.place.block c.in-Ok.place.at c.index_mut-block.result.now c.index_mut-tally.result.now
    place c.index_mut-block.ensures.value c.index_mut-tally.ensures.value c.requires.room

pub add_one-requires-clause-size : goal.add_one-requires-clause-size
add_one-requires-clause-size c =
    let place = subst (λ (vs : List (Vec Point Global)). IsPlaceOf (λ p. p.size) (map (λ b. b.items) vs) c.args.ended.now.size c.in-Ok.place.block c.in-Ok.place.at) c.deref.ensures.value c.in-Ok.ensures in
    item_key (λ b. b.items) (λ (p : Point). p.size) c.args.points.now.items c.args.ended.now.size c.in-Ok.place.block c.in-Ok.place.at c.index_mut-block.result.now c.index_mut-tally.result.now
    place c.index_mut-block.ensures.value c.index_mut-tally.ensures.value

pub returns-in-Ok-clause-ok : goal.returns-in-Ok-clause-ok
returns-in-Ok-clause-ok c =
    let p = point_of c.args.ended.now.size (c.args.ended.now ∷ []) in
    let place = subst (λ (vs : List (Vec Point Global)). IsPlaceOf (λ p. p.size) (map (λ b. b.items) vs) c.args.ended.now.size c.in-Ok.place.block c.in-Ok.place.at) c.deref.ensures.value c.in-Ok.ensures in
    item_changed (λ b. b.items) (λ (q : Point). q.size) p.size (λ q. merged q p) p c.args.points.now.items c.in-Ok.place.block c.in-Ok.place.at c.index_mut-block.result.now _ c.index_mut-tally.result.now
    c.requires.rising place c.index_mut-block.ensures.value c.index_mut-tally.ensures.value (ap (set c.index_mut-block.result.now.items c.in-Ok.place.at) c.add_one.ensures)

pub returns-in-Ok-clause-filled : goal.returns-in-Ok-clause-filled
returns-in-Ok-clause-filled c =
    let place = subst (λ (vs : List (Vec Point Global)). IsPlaceOf (λ p. p.size) (map (λ b. b.items) vs) c.args.ended.now.size c.in-Ok.place.block c.in-Ok.place.at) c.deref.ensures.value c.in-Ok.ensures in
    filled_changed (λ b. b.items) (λ (q : Point). q.size) c.args.points.now.items c.args.ended.now.size c.in-Ok.place.block c.in-Ok.place.at c.index_mut-block.result.now _ c.add_one.new.self c.requires.filled place c.index_mut-block.ensures.value refl

pub returns-in-Err-clause-no_allocation : goal.returns-in-Err-clause-no_allocation
returns-in-Err-clause-no_allocation c place stands =
    let gap = subst (λ (vs : List (Vec Point Global)). IsGapOf (λ p. p.size) (map (λ b. b.items) vs) c.args.ended.now.size c.in-Err.place.block c.in-Err.place.at) c.deref.ensures.value c.in-Err.ensures in
    absurd (nowhere (λ (q : Point). q.size) (map (λ b. b.items) c.args.points.now.items) c.args.ended.now.size c.in-Err.place.block c.in-Err.place.at place gap stands)
