use Rattle.std.proofs.Common.{◌∙◌, map, refl, sym}
use Rattle.std.proofs.lemmas.List.{length-map, take_rest}
use Rattle.call_tracker.proofs.Searched.{missed-all, searched}
use Rattle.call_tracker.proofs.missed.Missed.search.Goals as goal

pub returns-else-ended-eq0-clause-count : goal.returns-else-ended-eq0-clause-count
returns-else-ended-eq0-clause-count g c =
    let back = g.C.Returns.back_of in
    let calls = c.args.calls.now in
    let missed = c.depth_of-missed.result in
    searched back calls _ c.args.target missed c.count_returned-ended.result (take_rest calls missed) (c.depth_of-missed.ensures.missed (map back calls) c.requires) c.count_returned-ended.ensures.count

pub returns-then-ended-eq0-clause-count : goal.returns-then-ended-eq0-clause-count
returns-then-ended-eq0-clause-count g c =
    let back = g.C.Returns.back_of in
    let calls = c.args.calls.now in
    let missed = c.depth_of-missed.result in
    searched back calls _ c.args.target missed c.count_returned-ended.result (take_rest calls missed) (c.depth_of-missed.ensures.missed (map back calls) c.requires) c.count_returned-ended.ensures.count

pub returns-then-ended-eq0-clause-missed : goal.returns-then-ended-eq0-clause-missed
returns-then-ended-eq0-clause-missed g c =
    let back = g.C.Returns.back_of in
    let calls = c.args.calls.now in
    let missed = c.depth_of-missed.result in
    let count = searched back calls _ c.args.target missed c.count_returned-ended.result (take_rest calls missed) (c.depth_of-missed.ensures.missed (map back calls) c.requires) c.count_returned-ended.ensures.count in
    c.remember.ensures (map back calls) c.requires (length-map calls back) (missed-all back calls c.args.target _ refl (sym c.if-ended-eq0.true ∙ count))
