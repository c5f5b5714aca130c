use Rattle.profile_trials.specs.Trial.{IsTrial}
use Rattle.profile_trials.proofs.traces.end_all.Given as goal

abbrev pub invariant-loop-number : goal.invariant-loop-number
invariant-loop-number g l = IsTrial g.S.Stamp.MAX l.trial
