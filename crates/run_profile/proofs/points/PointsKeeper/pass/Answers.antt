use Rattle.std.proofs.Common.{◌∙◌, [], subst, sym}
use Rattle.cost_points.specs.Contents.{TableContents}
use Rattle.run_profile.specs.Keeping.{MayKeep}
use Rattle.run_profile.specs.Points.{HoldsPoints, KeptPoints}
use Rattle.run_profile.proofs.KeptPoints.{few_added, have_parts, may_pass, none_ended, none_ends, passed_ended, passes_by, points_begin}
use Rattle.run_profile.proofs.points.PointsKeeper.pass.Goals as goal

pub pass_ended-requires-clause-few : goal.pass_ended-requires-clause-few
pass_ended-requires-clause-few c =
    let may = subst (λ (k : KeptPoints). MayKeep HoldsPoints k [] c.args.e.now c.args.ends.now) (sym c.self.view_is) c.requires in
    few_added _ c.args.e.now c.args.ends.now (may_pass _ c.args.e.now c.args.ends.now may)

pub pass_ended-requires-clause-parts : goal.pass_ended-requires-clause-parts
pass_ended-requires-clause-parts c =
    let may = subst (λ (k : KeptPoints). MayKeep HoldsPoints k [] c.args.e.now c.args.ends.now) (sym c.self.view_is) c.requires in
    have_parts _ c.args.e.now c.args.ends.now (may_pass _ c.args.e.now c.args.ends.now may)

pub returns-then-may_end-clause-passes : goal.returns-then-may_end-clause-passes
returns-then-may_end-clause-passes c = λ past holds are.
    let held = subst (λ (k : KeptPoints). HoldsPoints k past []) (sym c.self.view_is) holds in
    let old : KeptPoints = record { table = c.self.inside.table; added = c.self.inside.added } in
    passes_by HoldsPoints (record old { table = c.pass_ended.new.table }) c.args.e.now past c.args.ends.now c.pass_ended.result
    (λ took. passed_ended old c.pass_ended.new.table c.args.e.now past c.args.ends.now held are (λ earlier is. c.pass_ended.ensures.points earlier is took))
    (λ left. subst (λ (t : TableContents). HoldsPoints (record old { table = t }) past c.args.ends.now) (sym (c.pass_ended.ensures.same left)) (points_begin old past c.args.ends.now held))

pub returns-then-may_end-clause-nothing : goal.returns-then-may_end-clause-nothing
returns-then-may_end-clause-nothing c = λ left past holds.
    let held = subst (λ (k : KeptPoints). HoldsPoints k past []) (sym c.self.view_is) holds in
    let old : KeptPoints = record { table = c.self.inside.table; added = c.self.inside.added } in
    subst (λ (t : TableContents). HoldsPoints (record old { table = t }) past []) (sym (c.pass_ended.ensures.same left)) held

pub returns-else-may_end-clause-passes : goal.returns-else-may_end-clause-passes
returns-else-may_end-clause-passes c = λ past holds are.
    none_ended _ c.args.e.now past holds (none_ends c.args.e.now past (sym c.may_end.ensures ∙ c.if-may_end.false))
