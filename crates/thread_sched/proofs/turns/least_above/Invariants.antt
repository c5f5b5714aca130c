use Rattle.std.proofs.Common.{◌≡◌, take}
use Rattle.thread_sched.specs.TurnRule.{able, above, least}
use Rattle.thread_sched.proofs.turns.least_above.Given as goal

abbrev pub invariant-loop-i : goal.invariant-loop-i
invariant-loop-i l = l.best ≡ least (above l.last (able (take l.i l.live)))
