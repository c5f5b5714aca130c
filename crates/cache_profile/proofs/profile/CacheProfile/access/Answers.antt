use Rattle.std.proofs.Common.{List, length, map, refl, sym, ap, ◌∙◌, subst}
use Rattle.std.specs.List.{All}
use Rattle.std.proofs.Math.Logic.{∥∥₁_elim}
use Rattle.std.proofs.Props.{props}
use Rattle.trace_model.specs.declared.event_kinds.Event.TheVariants.{Read}
use Rattle.cost_points.specs.Keys.{IsRising}
use Rattle.cost_points.proofs.InBlocks.{item_in}
use Rattle.cache_profile.specs.declared.routines.RoutineMisses.{RoutineMisses}
use Rattle.cache_profile.specs.Private.Added.{HasRoom, with_routine}
use Rattle.cache_profile.specs.ByRoutine.{accesses_of, all_accesses, by_routine}
use Rattle.cache_profile.specs.Profile.{KeptMisses, MayCome, MissesStandFor}
use Rattle.cache_profile.proofs.Bounds.{few_routines, have_room}
use Rattle.cache_profile.proofs.Following.{after_access, are_counted, formed_next, of_some}
use Rattle.cache_profile.proofs.Groups.{added_at, entries_rise, room_with}
use Rattle.cache_profile.proofs.profile.CacheProfile.access.Goals as goal

pub find_or_insert-requires-clause-few : goal.find_or_insert-requires-clause-few
find_or_insert-requires-clause-few g c =
    ∥∥₁_elim c.self.invariant (hlevel props) (λ of. few_routines g.K.Shaped.shape of.past _ of.now.progress_is.formed (ap length of.now.routines))

pub find_or_insert-requires-clause-rising : goal.find_or_insert-requires-clause-rising
find_or_insert-requires-clause-rising g c =
    ∥∥₁_elim c.self.invariant (hlevel props) (λ of.
    subst (λ (rs : List RoutineMisses). IsRising (map (λ r. r.entry) rs)) (sym of.now.routines) (entries_rise (all_accesses g.K.Shaped.shape of.past)))

pub add-requires : goal.add-requires
add-requires g c =
    ∥∥₁_elim c.self.invariant (hlevel props) (λ of.
    let shape = g.K.Shaped.shape in
    let entry = c.running-entry.result in
    let place = c.in_ok-place.place in
    item_in (λ (r : RoutineMisses). r.entry) HasRoom c.find_or_insert.new.self entry place.block place.at c.at_mut-routine.result.now
    c.in_ok-place.ensures.place c.at_mut-routine.ensures.found
    (subst (All HasRoom) (sym (c.in_ok-place.ensures.ok ∙ ap (with_routine entry) of.now.routines))
    (room_with entry (by_routine (all_accesses shape of.past)) (have_room shape of.past of.now.progress_is.formed))))

pub returns-clause-stands : goal.returns-clause-stands
returns-clause-stands g c = λ past stands.
    let s = subst (λ (k : KeptMisses). MissesStandFor g.K.Shaped.shape k past) (sym c.self.view_is) stands in
    let shape = g.K.Shaped.shape in
    let entry = c.running-entry.result in
    let place = c.in_ok-place.place in
    let may = subst (λ (k : KeptMisses). MayCome k c.args.e.now) (sym c.self.view_is) c.requires.may in
    let are = are_counted g.K.Shaped.shape past c.args.tid c.args.first c.args.count c.self.inside.cache c.running-entry.result c.access_words-event.result.accesses c.access_words-event.result.misses
    s.shape_is s.cache (c.running-entry.ensures past s.calls) c.access_words-event.ensures.some c.access_words-event.ensures.accesses c.access_words-event.ensures.misses in
    after_access g.K.Shaped.shape past c.args.tid c.args.first c.args.count _ _ s c.access_words-event.ensures.shape c.access_words-event.ensures.after refl refl
    (added_at (all_accesses shape past) (accesses_of shape (Read c.args.tid c.args.first c.args.count) past) entry c.access_words-event.result.accesses c.access_words-event.result.misses
    _ c.find_or_insert.new.self place.block place.at c.at_mut-routine.result.now c.add.new.self s.routines c.in_ok-place.ensures.ok
    c.in_ok-place.ensures.place c.at_mut-routine.ensures.found c.add.ensures are)
    c.args.e.now c.requires.accesses (c.pass.ensures.stands past s.progress_is (formed_next g.K.Shaped.shape _ past c.args.e.now s may))

pub invariant_of-self-2 : goal.invariant_of-self-2
invariant_of-self-2 g c =
    of_some g.K.Shaped.shape _ _ c.args.e.now c.self.invariant (λ past s.
    let shape = g.K.Shaped.shape in
    let entry = c.running-entry.result in
    let place = c.in_ok-place.place in
    let may = subst (λ (k : KeptMisses). MayCome k c.args.e.now) (sym c.self.view_is) c.requires.may in
    let are = are_counted g.K.Shaped.shape past c.args.tid c.args.first c.args.count c.self.inside.cache c.running-entry.result c.access_words-event.result.accesses c.access_words-event.result.misses
    s.shape_is s.cache (c.running-entry.ensures past s.calls) c.access_words-event.ensures.some c.access_words-event.ensures.accesses c.access_words-event.ensures.misses in
    after_access g.K.Shaped.shape past c.args.tid c.args.first c.args.count _ _ s c.access_words-event.ensures.shape c.access_words-event.ensures.after refl refl
    (added_at (all_accesses shape past) (accesses_of shape (Read c.args.tid c.args.first c.args.count) past) entry c.access_words-event.result.accesses c.access_words-event.result.misses
    _ c.find_or_insert.new.self place.block place.at c.at_mut-routine.result.now c.add.new.self s.routines c.in_ok-place.ensures.ok
    c.in_ok-place.ensures.place c.at_mut-routine.ensures.found c.add.ensures are)
    c.args.e.now c.requires.accesses (c.pass.ensures.stands past s.progress_is (formed_next g.K.Shaped.shape _ past c.args.e.now s may)))
