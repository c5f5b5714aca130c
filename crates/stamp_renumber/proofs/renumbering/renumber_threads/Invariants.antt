use Rattle.std.proofs.Common.{◌≡◌, ◌+◌, ◌≤◌, ◌<◌, ℕ, map, get_or, take}
use Rattle.std.specs.Prelude.{sum_by}
use Rattle.std.specs.Vec.{vec_capacity}
use Rattle.guest_words.specs.ByThread.{numbers}
use Rattle.stamp_renumber.specs.Costs.{stamps_of}
use Rattle.stamp_renumber.specs.Renumbered.{IsThreadRenumbered}
use Rattle.stamp_renumber.specs.Threads.{Stamped}
use Rattle.stamp_renumber.proofs.renumbering.renumber_threads.Given as goal

abbrev pub invariant-loop-i : goal.invariant-loop-i
invariant-loop-i g l = record {
  same : numbers l.threads.list ≡ numbers l.fn.threads.list;
  done : (k : ℕ) (d : ℕ × Stamped) → k < l.i → IsThreadRenumbered (map g.S.Stamp.number_of l.starts) l.writes.pages (get_or l.fn.threads.list k d).1 (get_or l.threads.list k d).1;
  left : (k : ℕ) (d : ℕ × Stamped) → l.i ≤ k → get_or l.threads.list k d ≡ get_or l.fn.threads.list k d;
  cost : l.steps ≡ l.fn.steps + sum_by (λ x. stamps_of x.1) (take l.i l.fn.threads.list);
  capacity : vec_capacity l.fn.renewed ≤ vec_capacity l.renewed;
}
