use Rattle.std.proofs.Common.{arith}
use Rattle.thread_sched.proofs.Threads.{entry_used}
use Rattle.thread_sched.proofs.turns.Sched.next.Goals as goal

pub returns-then-self-len-clause-behind : goal.returns-then-self-len-clause-behind
returns-then-self-len-clause-behind c = entry_used c.args.self.now _ _ c.self.inside.used _ _ c.self.inside.entries.items c.self.view_is c.number-self-inside.ensures.same (omega (arith, c.if-self-len.true, c.len.ensures, c.self.inside.entries.ok))
