use Rattle.std.proofs.Common.{◌≡◌, ◌≤◌, ℕ, List, Option, length}
use Rattle.std.specs.List.{AllWithin}
use Rattle.call_tracker.specs.Missed.{AreMissed}
use Rattle.call_tracker.proofs.missed.Missed.settle.Given as goal

abbrev pub invariant-loop-i : goal.invariant-loop-i
invariant-loop-i l = record {
  low : l.self.low ≡ l.fn.self.low;
  count : length l.self.places ≡ length l.fn.self.places;
  whole : length l.self.places ≡ 8;
  settled : AllWithin (λ miss. miss.depth ≤ l.self.low) l.self.places 0 l.i;
  missed : (backs : List (Option ℕ)) → AreMissed backs l.fn.self → AreMissed backs l.self;
}
