use Rattle.profile_trials.proofs.Trials.{begins}
use Rattle.profile_trials.proofs.trial.Trial.new.Goals as goal

pub returns : goal.returns
returns g c = begins _ _ _ _ _ c.in_ok-new.ensures (c.in_ok-new-2.ensures.stands c.requires) c.in_ok-new-3.ensures
