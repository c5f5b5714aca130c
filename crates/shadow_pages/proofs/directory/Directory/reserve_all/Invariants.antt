use Rattle.std.proofs.Common.{◌≡◌, ℕ}
use Rattle.shadow_pages.specs.Directory.{HaveTables, IsApart, entry, table_of}
use Rattle.shadow_pages.proofs.directory.Directory.reserve_all.Given as goal

abbrev pub invariant-loop-number : goal.invariant-loop-number
invariant-loop-number l = record {
  entries : (n : ℕ) → entry l.self n ≡ entry l.fn.self n;
  placed : HaveTables l.self l.first l.number;
  only : (n : ℕ) → IsApart l.first l.end n → table_of l.self n ≡ table_of l.fn.self n;
}
