use Rattle.std.proofs.Common.{◌≡◌, take, map}
use Rattle.aprof_top.specs.CacheMisses.{named_misses}
use Rattle.aprof_top.proofs.cache_job.named_misses.Given as goal

abbrev pub invariant-loop-i : goal.invariant-loop-i
invariant-loop-i g l = l.routines.items ≡ map (named_misses l.image) (take l.i l.profile.routines)
