use Rattle.std.proofs.Common.{◌≡◌, ◌+◌, ◌*◌, ◌++◌, length, map, take, drop}
use Rattle.stamp_renumber.specs.Private.Rows.{renewed_writes}
use Rattle.stamp_renumber.proofs.pages.renew_writes.Given as goal

abbrev pub invariant-loop-i : goal.invariant-loop-i
invariant-loop-i g l = record {
  long : length l.writes.pages ≡ length l.fn.writes.pages;
  cost : l.steps ≡ l.fn.steps + 1024 * l.i;
  pages : l.writes.pages ≡ map (renewed_writes (map g.S.Stamp.number_of l.starts)) (take l.i l.fn.writes.pages) ++ drop l.i l.fn.writes.pages;
}
