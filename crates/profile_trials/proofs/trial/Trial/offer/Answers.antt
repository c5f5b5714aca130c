use Rattle.std.proofs.Common.{subst, sym}
use Rattle.profile_trials.specs.Trial.{TrialState, IsTrial}
use Rattle.profile_trials.proofs.trial.Trial.offer.Goals as goal

pub apply-requires : goal.apply-requires
apply-requires g c =
    let trial = subst (λ (t : TrialState). IsTrial g.S.Stamp.MAX t) (sym c.self.view_is) c.requires in
    record { past = _; now = trial.stamps; formed = (c.may_follow.ensures.stands _ trial.order).0 c.if-not-may_follow.false }

pub add-requires : goal.add-requires
add-requires g c = c.may_follow.ensures.shown.0 c.if-not-may_follow.false
