use Rattle.std.proofs.Common.{◌≡◌, ◌<◌, ℕ, length, get_or}
use Rattle.rv_asm.specs.declared.line.Line.{Line}
use Rattle.rv_asm.specs.Assembled.{instruction_at, IsWordOf}
use Rattle.rv_asm.specs.Refusals.{IsInReach}
use Rattle.rv_asm.proofs.assembly.words_of.Given as goal

-- The words so far are those of the lines so far, and these are in reach.
abbrev pub invariant-loop-at : goal.invariant-loop-at
invariant-loop-at l = record {
  count : length l.words.items ≡ l.at;
  each : (k : ℕ) → k < l.at → (line : Line) → IsWordOf (instruction_at l.bindings k (get_or l.lines k line)) (get_or l.words.items k 0);
  reach : (k : ℕ) → k < l.at → (line : Line) → IsInReach l.bindings k (get_or l.lines k line);
}
