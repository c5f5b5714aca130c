use Rattle.std.proofs.Common.{◌≡◌, ◌∙◌, ◌<◌, ◌≤◌, length, get_or, take, [], sym, subst, arith}
use Rattle.std.specs.List.{flat_map}
use Rattle.std.proofs.lemmas.List.{length-map}
use Rattle.std.proofs.Math.Logic.{∥∥₁_elim}
use Rattle.std.proofs.Props.{props}
use Rattle.context_tree.specs.Contexts.{contexts}
use Rattle.context_tree.specs.Numbers.{numbered}
use Rattle.context_tree.specs.Points.{done_in_context, members_of}
use Rattle.context_tree.specs.Branches.{KeptBranches, BranchesStandFor}
use Rattle.context_tree.specs.Private.Ways.{PointList, lists}
use Rattle.context_tree.proofs.Climbing.{there_is}
use Rattle.context_tree.proofs.Following.{as_many}
use Rattle.context_tree.proofs.Once.{point_once}
use Rattle.context_tree.proofs.Summing.{entries_here, few_here, good_here, list_is, table_all, table_step, told_here}
use Rattle.context_tree.proofs.branches.Branches.add_totals.Goals as goal

pub index-requires : goal.index-requires
index-requires c = ∥∥₁_elim c.requires.light (hlevel props) (λ of.
    let s = subst (λ (k : KeptBranches). BranchesStandFor k of.past) (sym c.self.view_is) of.now in
    omega (arith, c.loop-i-test.true, c.len-i-end.ensures.value, as_many _ of.past s, length-map c.self.inside.points.items (λ (p : PointList). p.points)))

pub add_points-requires-clause-told : goal.add_points-requires-clause-told
add_points-requires-clause-told c = ∥∥₁_elim c.requires.light (hlevel props) (λ of.
    let s = subst (λ (k : KeptBranches). BranchesStandFor k of.past) (sym c.self.view_is) of.now in
    let inside : c.loop-i.i < length c.self.inside.points.items = omega (arith, c.loop-i-test.true, c.len-i-end.ensures.value, as_many _ of.past s, length-map c.self.inside.points.items (λ (p : PointList). p.points)) in
    let lt : c.loop-i.i < length (contexts of.past) = omega (arith, c.loop-i-test.true, c.len-i-end.ensures.value, s.contexts_are.long) in
    let read : c.deref.result.now ≡ get_or (lists c.self.inside.points.items) c.loop-i.i [] =
    c.deref.ensures.value ∙ c.in_ok-points.ensures ∙ there_is c.self.inside.points.items c.loop-i.i inside c.index.result.now c.index.result.now c.index.ensures
    in
    told_here _ of.past s c.loop-i.i lt c.deref.result.now read)

pub add_points-requires-clause-each : goal.add_points-requires-clause-each
add_points-requires-clause-each c = ∥∥₁_elim c.requires.light (hlevel (props, point_once)) (λ of.
    let s = subst (λ (k : KeptBranches). BranchesStandFor k of.past) (sym c.self.view_is) of.now in
    let inside : c.loop-i.i < length c.self.inside.points.items = omega (arith, c.loop-i-test.true, c.len-i-end.ensures.value, as_many _ of.past s, length-map c.self.inside.points.items (λ (p : PointList). p.points)) in
    let lt : c.loop-i.i < length (contexts of.past) = omega (arith, c.loop-i-test.true, c.len-i-end.ensures.value, s.contexts_are.long) in
    let read : c.deref.result.now ≡ get_or (lists c.self.inside.points.items) c.loop-i.i [] =
    c.deref.ensures.value ∙ c.in_ok-points.ensures ∙ there_is c.self.inside.points.items c.loop-i.i inside c.index.result.now c.index.result.now c.index.ensures
    in
    good_here _ of.past s c.loop-i.i lt c.deref.result.now read)

pub add_points-requires-clause-few : goal.add_points-requires-clause-few
add_points-requires-clause-few c = ∥∥₁_elim c.requires.light (hlevel props) (λ of.
    let s = subst (λ (k : KeptBranches). BranchesStandFor k of.past) (sym c.self.view_is) of.now in
    let inside : c.loop-i.i < length c.self.inside.points.items = omega (arith, c.loop-i-test.true, c.len-i-end.ensures.value, as_many _ of.past s, length-map c.self.inside.points.items (λ (p : PointList). p.points)) in
    let lt : c.loop-i.i < length (contexts of.past) = omega (arith, c.loop-i-test.true, c.len-i-end.ensures.value, s.contexts_are.long) in
    let read : c.deref.result.now ≡ get_or (lists c.self.inside.points.items) c.loop-i.i [] =
    c.deref.ensures.value ∙ c.in_ok-points.ensures ∙ there_is c.self.inside.points.items c.loop-i.i inside c.index.result.now c.index.result.now c.index.ensures
    in
    few_here _ of.past s c.loop-i.i lt c.deref.result.now read of.light c.loop-i.table (c.loop-i.invariant of.past of.now))

pub loop-i-preserved : goal.loop-i-preserved
loop-i-preserved c = λ past stands.
    let s = subst (λ (k : KeptBranches). BranchesStandFor k past) (sym c.self.view_is) stands in
    let inside : c.loop-i.i < length c.self.inside.points.items = omega (arith, c.loop-i-test.true, c.len-i-end.ensures.value, as_many _ past s, length-map c.self.inside.points.items (λ (p : PointList). p.points)) in
    let lt : c.loop-i.i < length (contexts past) = omega (arith, c.loop-i-test.true, c.len-i-end.ensures.value, s.contexts_are.long) in
    let read : c.deref.result.now ≡ get_or (lists c.self.inside.points.items) c.loop-i.i [] =
    c.deref.ensures.value ∙ c.in_ok-points.ensures ∙ there_is c.self.inside.points.items c.loop-i.i inside c.index.result.now c.index.result.now c.index.ensures
    in
    table_step _ past s c.loop-i.i lt c.deref.result.now read c.add_points.new.table
    (c.in_ok-add_points.ensures (flat_map (members_of (done_in_context past)) (take c.loop-i.i (contexts past))) (members_of (done_in_context past) (get_or (contexts past) c.loop-i.i []))
    (c.loop-i.invariant past stands)
    (entries_here _ past s c.loop-i.i lt c.deref.result.now read (numbered (contexts past) c.place-entry.result.0) c.place-entry.result.1 (c.place-entry.ensures.context (contexts past) s.contexts_are))
    (list_is _ past s c.loop-i.i lt c.deref.result.now read))

pub returns : goal.returns
returns c = λ past stands.
    let s = subst (λ (k : KeptBranches). BranchesStandFor k past) (sym c.self.view_is) stands in
    let all : length (contexts past) ≤ c.loop-i.i = omega (arith, c.loop-i-test.false, c.len-i-end.ensures.value, s.contexts_are.long) in
    c.index_routines.ensures ∙ table_all _ past c.loop-i.i c.loop-i.table s all (c.loop-i.invariant past stands)
