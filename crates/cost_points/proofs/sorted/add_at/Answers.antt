use Rattle.std.proofs.Common.{[], ◌∷◌, Global, List, Vec, ap, map, refl, set, subst}
use Rattle.cost_points.specs.declared.point.Point.{Point}
use Rattle.cost_points.specs.Places.{IsPlaceOf}
use Rattle.cost_points.specs.Merging.{merged}
use Rattle.cost_points.specs.Points.{point_of}
use Rattle.cost_points.specs.Search.{HasRoom}
use Rattle.cost_points.proofs.InBlocks.{filled_changed, item_changed, item_has, item_key}
use Rattle.cost_points.proofs.sorted.add_at.Goals as goal

pub take_in-requires-clause-room : goal.take_in-requires-clause-room
take_in-requires-clause-room c =
    let place = subst (λ (vs : List (Vec Point Global)). IsPlaceOf (λ p. p.size) (map (λ b. b.items) vs) c.args.ended.now.size c.args.place.block c.args.place.at) c.deref.ensures.value (c.stands_at.ensures c.if-stands_at.true) in
    item_has (λ b. b.items) (λ (p : Point). p.size) HasRoom c.args.points.now.items c.args.ended.now.size c.args.place.block c.args.place.at c.index_mut-block.result.now c.index_mut-tally.result.now
    place c.index_mut-block.ensures.value c.index_mut-tally.ensures.value c.requires.room

pub take_in-requires-clause-size : goal.take_in-requires-clause-size
take_in-requires-clause-size c =
    let place = subst (λ (vs : List (Vec Point Global)). IsPlaceOf (λ p. p.size) (map (λ b. b.items) vs) c.args.ended.now.size c.args.place.block c.args.place.at) c.deref.ensures.value (c.stands_at.ensures c.if-stands_at.true) in
    item_key (λ b. b.items) (λ (p : Point). p.size) c.args.points.now.items c.args.ended.now.size c.args.place.block c.args.place.at c.index_mut-block.result.now c.index_mut-tally.result.now
    place c.index_mut-block.ensures.value c.index_mut-tally.ensures.value

pub returns-then-stands_at-clause-added : goal.returns-then-stands_at-clause-added
returns-then-stands_at-clause-added c = λ yes.
    let p = point_of c.args.ended.now.size (c.args.ended.now ∷ []) in
    let place = subst (λ (vs : List (Vec Point Global)). IsPlaceOf (λ p. p.size) (map (λ b. b.items) vs) c.args.ended.now.size c.args.place.block c.args.place.at) c.deref.ensures.value (c.stands_at.ensures c.if-stands_at.true) in
    item_changed (λ b. b.items) (λ (q : Point). q.size) p.size (λ q. merged q p) p c.args.points.now.items c.args.place.block c.args.place.at c.index_mut-block.result.now _ c.index_mut-tally.result.now
    c.requires.rising place c.index_mut-block.ensures.value c.index_mut-tally.ensures.value (ap (set c.index_mut-block.result.now.items c.args.place.at) c.take_in.ensures)

pub returns-then-stands_at-clause-filled : goal.returns-then-stands_at-clause-filled
returns-then-stands_at-clause-filled c =
    let place = subst (λ (vs : List (Vec Point Global)). IsPlaceOf (λ p. p.size) (map (λ b. b.items) vs) c.args.ended.now.size c.args.place.block c.args.place.at) c.deref.ensures.value (c.stands_at.ensures c.if-stands_at.true) in
    filled_changed (λ b. b.items) (λ (q : Point). q.size) c.args.points.now.items c.args.ended.now.size c.args.place.block c.args.place.at c.index_mut-block.result.now _ c.take_in.new.self c.requires.filled place c.index_mut-block.ensures.value refl
