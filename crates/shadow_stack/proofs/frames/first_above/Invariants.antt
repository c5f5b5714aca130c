use Rattle.std.proofs.Common.{ℕ, ◌≤◌, ◌<◌, ◌-◌, length, slice_index, map}
use Rattle.shadow_stack.proofs.Halving.{IsHalved}
use Rattle.shadow_stack.proofs.frames.first_above.Given as goal

abbrev pub invariant-loop-low : goal.invariant-loop-low
invariant-loop-low g l = record {
  order : l.low ≤ l.high;
  within : l.high ≤ length l.frames;
  below : (i : ℕ) → i < l.low → slice_index (map (λ x. g.S.Stamp.number_of x.start) l.frames) i ≤ l.n;
  above : (i : ℕ) → l.high ≤ i → i < length l.frames → l.n < slice_index (map (λ x. g.S.Stamp.number_of x.start) l.frames) i;
  counted : l.fn.steps ≤ l.steps;
  cost : IsHalved (l.steps - l.fn.steps) (l.high - l.low) (length l.frames);
}

abbrev pub decreases-loop-low : goal.decreases-loop-low
decreases-loop-low g l = l.high - l.low
