use Rattle.std.proofs.Common.{◌≡◌, length, map, take}
use Rattle.shadow_stack.specs.Frames.{restarted}
use Rattle.shadow_stack.proofs.Places.{seen}
use Rattle.shadow_stack.proofs.frames.restart.Given as goal

abbrev pub invariant-loop-i : goal.invariant-loop-i
invariant-loop-i g l = record {
  long : length l.entries.items ≡ length l.fn.entries.items;
  spare : l.entries.spare ≡ l.fn.entries.spare;
  calls : map (λ x. x.call) l.entries.items ≡ map (λ x. x.call) l.fn.entries.items;
  list : map (seen (λ x. g.S.Stamp.number_of x.start) (λ x. x.sums)) l.entries.items ≡ restarted (take l.i (map g.S.Stamp.number_of l.starts)) (map (seen (λ x. g.S.Stamp.number_of x.start) (λ x. x.sums)) l.fn.entries.items);
}
