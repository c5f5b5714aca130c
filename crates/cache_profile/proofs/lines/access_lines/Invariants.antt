use Rattle.std.specs.List.{range_with_len}
use Rattle.cache_profile.proofs.Accessed.{AreAccessed}
use Rattle.cache_profile.proofs.lines.access_lines.Given as goal

abbrev pub invariant-loop-k : goal.invariant-loop-k
invariant-loop-k l = AreAccessed l.initial.cache l.cache (range_with_len l.first l.k) l.misses
