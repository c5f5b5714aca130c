use Rattle.std.proofs.Common.{◌≡◌, ◌+◌, ◌*◌, ◌++◌, length, map, take, drop}
use Rattle.stamp_renumber.specs.Private.Rows.{renewed_accesses}
use Rattle.stamp_renumber.proofs.pages.renew_accesses.Given as goal

abbrev pub invariant-loop-i : goal.invariant-loop-i
invariant-loop-i g l = record {
  long : length l.shadow.pages ≡ length l.fn.shadow.pages;
  cost : l.steps ≡ l.fn.steps + 1024 * l.i;
  pages : l.shadow.pages ≡ map (renewed_accesses (map g.S.Stamp.number_of l.starts) l.writes.pages) (take l.i l.fn.shadow.pages) ++ drop l.i l.fn.shadow.pages;
}
