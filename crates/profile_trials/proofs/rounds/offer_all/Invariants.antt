use Rattle.profile_trials.specs.Trial.{IsTrial}
use Rattle.profile_trials.proofs.rounds.offer_all.Given as goal

abbrev pub invariant-loop-e : goal.invariant-loop-e
invariant-loop-e g l = IsTrial g.S.Stamp.MAX l.trial
