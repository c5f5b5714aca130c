use Rattle.std.proofs.Common.{◌≡◌, take, reverse}
use Rattle.trace_model.specs.Profile.{done}
use Rattle.trace_model.proofs.slow_profile.slow_done.Given as goal

abbrev pub invariant-loop-q : goal.invariant-loop-q
invariant-loop-q l = l.done.items ≡ done (reverse (take l.q l.h))
