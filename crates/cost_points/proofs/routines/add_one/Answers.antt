use Rattle.std.proofs.Common.{[], ◌∷◌, map, subst, sym}
use Rattle.std.specs.List.{All}
use Rattle.cost_points.specs.Merging.{point_added}
use Rattle.cost_points.specs.Points.{Routine, point_of}
use Rattle.cost_points.specs.Search.{HasRoom, IsAt}
use Rattle.cost_points.specs.Valid.{IsRoutine}
use Rattle.cost_points.proofs.InBlocks.{item_in}
use Rattle.cost_points.proofs.Indexed.{it_changes, it_is, none_has}
use Rattle.cost_points.proofs.Merged.{new_routine, on_ok}
use Rattle.cost_points.proofs.routines.add_one.Goals as goal

pub add_one-requires-clause-rising : goal.add_one-requires-clause-rising
add_one-requires-clause-rising c =
    let place = c.in-Ok.place in
    (item_in (λ (r : Routine). r.entry) IsRoutine c.args.routines.now c.from-key.result place.block place.at c.at_mut-routine.result.now c.in-Ok.ensures c.at_mut-routine.ensures.found c.requires.profile.each).sizes

pub add_one-requires-clause-room : goal.add_one-requires-clause-room
add_one-requires-clause-room c =
    let place = c.in-Ok.place in
    item_in (λ (r : Routine). r.entry) (λ r. All HasRoom r.points) c.args.routines.now c.from-key.result place.block place.at c.at_mut-routine.result.now c.in-Ok.ensures c.at_mut-routine.ensures.found c.requires.room

pub returns-in-Ok-clause-ok : goal.returns-in-Ok-clause-ok
returns-in-Ok-clause-ok c =
    let place = c.in-Ok.place in
    let p = point_of c.args.ended.now.size (c.args.ended.now ∷ []) in
    on_ok c.add_one.result _ _ c.add_one.ensures.ok
    (it_changes (λ (r : Routine). r.entry) c.args.routines.now c.from-key.result c.args.ended.now.entry c.from-key.ensures place.block place.at c.in-Ok.ensures c.at_mut-routine.result.now c.at_mut-routine.ensures.found
    (point_added p) (new_routine c.args.ended.now.entry p) c.add_one.new.self c.requires.profile.entries)

pub returns-in-Ok-clause-no_allocation : goal.returns-in-Ok-clause-no_allocation
returns-in-Ok-clause-no_allocation c i at r there entry point =
    let place = c.in-Ok.place in
    let same = it_is (λ (r : Routine). r.entry) c.args.routines.now c.from-key.result c.args.ended.now.entry c.from-key.ensures place.block place.at c.in-Ok.ensures c.at_mut-routine.result.now c.at_mut-routine.ensures.found i r c.requires.profile.entries there entry in
    c.add_one.ensures.no_allocation at (subst (λ (q : Routine). IsAt (map (λ p. p.size) q.points) c.args.ended.now.size at) (sym same) point)

pub returns-in-Err-clause-no_allocation : goal.returns-in-Err-clause-no_allocation
returns-in-Err-clause-no_allocation c i at r there entry point =
    absurd (none_has (λ (r : Routine). r.entry) c.args.routines.now c.from-key.result c.args.ended.now.entry c.from-key.ensures c.in-Err.place.block c.in-Err.place.at i r c.in-Err.ensures there entry)
