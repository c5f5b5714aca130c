use Rattle.std.proofs.Common.{subst, sym}
use Rattle.std.proofs.lemmas.Result.{err_from_is_err_and}
use Rattle.run_profile.specs.Keeping.{MayKeep}
use Rattle.run_profile.specs.Points.{HoldsPoints, KeptPoints}
use Rattle.run_profile.proofs.KeptPoints.{all_added, few_added, have_parts, some_added}
use Rattle.run_profile.proofs.points.PointsKeeper.take.Goals as goal

pub add_ended-requires-clause-few : goal.add_ended-requires-clause-few
add_ended-requires-clause-few c =
    few_added _ c.args.e c.args.ends.now (subst (λ (k : KeptPoints). MayKeep HoldsPoints k c.args.ends.now c.args.e c.args.ends.now) (sym c.self.view_is) c.requires)

pub add_ended-requires-clause-parts : goal.add_ended-requires-clause-parts
add_ended-requires-clause-parts c =
    have_parts _ c.args.e c.args.ends.now (subst (λ (k : KeptPoints). MayKeep HoldsPoints k c.args.ends.now c.args.e c.args.ends.now) (sym c.self.view_is) c.requires)

pub returns-clause-taken : goal.returns-clause-taken
returns-clause-taken c = λ past holds are.
    all_added _ c.add_ended.new.added c.add_ended.new.table past c.args.ends.now c.add_ended.ensures.points
    (subst (λ (k : KeptPoints). HoldsPoints k past c.args.ends.now) (sym c.self.view_is) holds) c.args.e c.in_ok-add_ended.ensures.all are

pub returns-in_err-add_ended-clause-refused : goal.returns-in_err-add_ended-clause-refused
returns-in_err-add_ended-clause-refused c = λ past holds.
    let p = err_from_is_err_and c.from_residual.result c.from_residual.ensures.1 in
    rw p.1 (some_added _ c.add_ended.new.added c.add_ended.new.table past c.args.ends.now c.add_ended.ensures.points
    (subst (λ (k : KeptPoints). HoldsPoints k past c.args.ends.now) (sym c.self.view_is) holds) c.add_ended.ensures.inside)
