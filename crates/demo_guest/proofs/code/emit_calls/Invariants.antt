use Rattle.std.proofs.Common.{◌≡◌, ◌+◌, ◌*◌, ◌++◌, length, take}
use Rattle.std.specs.List.{flat_map}
use Rattle.demo_guest.specs.Private.Drafts.{call_lines}
use Rattle.demo_guest.proofs.code.emit_calls.Given as goal

-- The calls so far are written.
abbrev pub invariant-loop-label : goal.invariant-loop-label
invariant-loop-label l = record {
  lines : l.program.lines ≡ l.initial.program.lines ++ flat_map call_lines (take l.label-index l.labels);
  size : length l.program.lines ≡ length l.initial.program.lines + 2 * l.label-index;
  bindings : l.program.bindings ≡ l.initial.program.bindings;
}
