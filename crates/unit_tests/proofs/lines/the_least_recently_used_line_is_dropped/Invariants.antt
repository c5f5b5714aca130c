use Rattle.std.proofs.Common.{◌≡◌}
use Rattle.unit_tests.proofs.lines.the_least_recently_used_line_is_dropped.Given as goal

abbrev pub invariant-loop-line : goal.invariant-loop-line
invariant-loop-line g l = l.cache.shape.line ≡ 64
