use Rattle.thread_sched.proofs.Threads.{least_able_more}
use Rattle.thread_sched.proofs.turns.least_able.Goals as goal

pub loop-i-preserved : goal.loop-i-preserved
loop-i-preserved c = least_able_more c.args.live.now c.loop-i.i _ c.loop-i.best _ c.at-tid.ensures c.loop-i.invariant c.with_taken-best.ensures
