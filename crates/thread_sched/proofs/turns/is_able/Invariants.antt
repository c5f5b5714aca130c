use Rattle.std.proofs.Common.{◌≡◌, false, take}
use Rattle.std.specs.Prelude.{◌==◌}
use Rattle.std.specs.List.{list_any}
use Rattle.thread_sched.specs.TurnRule.{able}
use Rattle.thread_sched.proofs.turns.is_able.Given as goal

abbrev pub invariant-loop-i : goal.invariant-loop-i
invariant-loop-i l = list_any (λ other. other == l.tid) (able (take l.i l.live)) ≡ false
