use Rattle.std.proofs.Common.{length}
use Rattle.thread_sched.proofs.Read.{Behind}
use Rattle.thread_sched.proofs.schedule.Schedule.read.Given as goal

-- the entries of the lines before the rest are read
abbrev pub invariant-loop-line : goal.invariant-loop-line
invariant-loop-line l = Behind l.text l.entries.items l.rest

abbrev pub decreases-loop-line : goal.decreases-loop-line
decreases-loop-line l = length l.rest
