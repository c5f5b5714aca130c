use Rattle.std.proofs.Common.{◌∙◌, ap, subst, sym}
use Rattle.run_profile.specs.Profile.{IsProfileOf, KeptRun}
use Rattle.run_profile.proofs.Profiles.{settled}
use Rattle.run_profile.proofs.profile.Profile.into_kept.Goals as goal

pub returns-clause-kept : goal.returns-clause-kept
returns-clause-kept g c = λ past kept.
    let p = subst (λ (k : KeptRun g.row.K.Denot). IsProfileOf g.S.Stamp.MAX g.K.Keeper.holds k past) (sym c.profile.view_is) (c.settle.ensures.stands past kept) in
    settled g.S.Stamp.MAX g.K.Keeper.holds _ past p (ap (λ (k : KeptRun g.row.K.Denot). k.next) c.profile.view_is ∙ c.in_ok-settle.ensures.settled)

pub returns-clause-counts : goal.returns-clause-counts
returns-clause-counts g c = λ past kept.
    let p = subst (λ (k : KeptRun g.row.K.Denot). IsProfileOf g.S.Stamp.MAX g.K.Keeper.holds k past) (sym c.profile.view_is) (c.settle.ensures.stands past kept) in
    record {
      steps_are = p.steps_are;
      pending_are = c.pending.ensures.stands past p.stands;
      renumbered_are = c.renumbered.ensures.stands past p.stands;
    }
