use Rattle.std.proofs.Common.{◌≡◌, ◌+◌, ◌-◌, ◌*◌, ◌≤◌, true}
use Rattle.std.specs.Prelude.{is_some, vec_len}
use Rattle.std.specs.Vec.{vec_capacity}
use Rattle.guest_words.specs.ByThread.{value_of}
use Rattle.shadow_core.specs.Private.Ending.{IsEnded}
use Rattle.shadow_core.proofs.endings.end_many.Given as goal

abbrev pub invariant-loop-count : goal.invariant-loop-count
invariant-loop-count g l = record {
  few : l.count ≤ l.ended;
  ended : IsEnded l.tid l.count l.fn.threads l.threads l.fn.done.items l.done.items;
  cost : l.steps ≡ l.fn.steps + 2 * l.count;
  lives : is_some (value_of l.threads.threads l.tid) ≡ true;
  room : vec_len l.done + (l.ended - l.count) ≤ vec_capacity l.done;
}

abbrev pub decreases-loop-count : goal.decreases-loop-count
decreases-loop-count g l = l.ended - l.count
