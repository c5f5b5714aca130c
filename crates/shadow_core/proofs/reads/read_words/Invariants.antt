use Rattle.std.proofs.Common.{ℕ, ◌*◌}
use Rattle.shadow_pages.specs.Pages.{stamp_at}
use Rattle.shadow_core.specs.Private.Reading.{IsRead, IsReadWithin}
use Rattle.shadow_core.proofs.reads.read_words.Given as goal

abbrev pub invariant-loop-i : goal.invariant-loop-i
invariant-loop-i g l = record {
  read : (marks : ℕ → ℕ) → IsRead l.fn.threads l.threads l.tid (stamp_at l.writes.pages) marks l.first l.i (g.S.Stamp.number_of l.stamp);
  cost : IsReadWithin (9 * l.i) l.fn.threads l.tid l.first l.i l.fn.steps l.steps;
}
