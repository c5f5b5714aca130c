use Rattle.std.proofs.Common.{[], ◌∷◌}
use Rattle.std.specs.List.{All}
use Rattle.cost_points.specs.Merging.{point_added}
use Rattle.cost_points.specs.Points.{Routine, point_of}
use Rattle.cost_points.specs.Search.{HasRoom}
use Rattle.cost_points.specs.Valid.{IsRoutine}
use Rattle.cost_points.proofs.InBlocks.{item_in}
use Rattle.cost_points.proofs.Indexed.{it_changes}
use Rattle.cost_points.proofs.Merged.{new_routine}
use Rattle.cost_points.proofs.routines.add_last.Goals as goal

pub add_last-requires-clause-rising : goal.add_last-requires-clause-rising
add_last-requires-clause-rising c =
    let place = c.in-Some.place in
    let found = c.at_mut-routine.ensures.found in
    (item_in (λ (r : Routine). r.entry) IsRoutine c.args.routines.now c.from-key.result place.block place.at c.at_mut-routine.result.now c.in-Some.ensures found c.requires.profile.each).sizes

pub add_last-requires-clause-room : goal.add_last-requires-clause-room
add_last-requires-clause-room c =
    let place = c.in-Some.place in
    let found = c.at_mut-routine.ensures.found in
    item_in (λ (r : Routine). r.entry) (λ r. All HasRoom r.points) c.args.routines.now c.from-key.result place.block place.at c.at_mut-routine.result.now c.in-Some.ensures found c.requires.room

pub returns-in-Some-clause-added : goal.returns-in-Some-clause-added
returns-in-Some-clause-added c = λ yes.
    let place = c.in-Some.place in
    let found = c.at_mut-routine.ensures.found in
    let p = point_of c.args.ended.now.size (c.args.ended.now ∷ []) in
    it_changes (λ (r : Routine). r.entry) c.args.routines.now c.from-key.result c.args.ended.now.entry c.from-key.ensures place.block place.at c.in-Some.ensures c.at_mut-routine.result.now found
    (point_added p) (new_routine c.args.ended.now.entry p) c.add_last.new.self c.requires.profile.entries (c.add_last.ensures.added yes)
