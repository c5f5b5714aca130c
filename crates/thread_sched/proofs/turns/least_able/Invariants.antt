use Rattle.std.proofs.Common.{◌≡◌, take}
use Rattle.thread_sched.specs.TurnRule.{able, least}
use Rattle.thread_sched.proofs.turns.least_able.Given as goal

abbrev pub invariant-loop-i : goal.invariant-loop-i
invariant-loop-i l = l.best ≡ least (able (take l.i l.live))
