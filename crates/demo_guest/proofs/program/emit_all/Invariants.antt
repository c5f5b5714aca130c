use Rattle.std.proofs.Common.{◌≡◌, ◌++◌, map, take}
use Rattle.demo_guest.specs.Private.Drafts.{plain}
use Rattle.demo_guest.proofs.program.emit_all.Given as goal

-- The instructions so far are written.
abbrev pub invariant-loop-instruction : goal.invariant-loop-instruction
invariant-loop-instruction l = record {
  lines : l.program.lines ≡ l.initial.program.lines ++ map plain (take l.instruction-index l.instructions);
  bindings : l.program.bindings ≡ l.initial.program.bindings;
}
