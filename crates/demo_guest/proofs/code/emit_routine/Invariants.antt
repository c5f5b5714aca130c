use Rattle.std.proofs.Common.{◌≡◌, ◌+◌, ◌++◌, length, map}
use Rattle.std.specs.List.{range_with_len}
use Rattle.demo_guest.specs.Guest.{load}
use Rattle.demo_guest.specs.Private.Drafts.{plain}
use Rattle.demo_guest.proofs.code.emit_routine.Given as goal

-- The loads so far are written.
abbrev pub invariant-loop-k : goal.invariant-loop-k
invariant-loop-k l = record {
  lines : l.program.lines ≡ l.initial.program.lines ++ map plain (map load (range_with_len 0 l.k));
  size : length l.program.lines ≡ length l.initial.program.lines + l.k;
  bindings : l.program.bindings ≡ l.initial.program.bindings;
}
