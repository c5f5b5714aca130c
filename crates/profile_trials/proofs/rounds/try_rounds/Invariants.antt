use Rattle.profile_trials.specs.Trial.{IsTrial}
use Rattle.profile_trials.proofs.rounds.try_rounds.Given as goal

abbrev pub invariant-loop : goal.invariant-loop
invariant-loop g l = IsTrial g.S.Stamp.MAX l.trial
