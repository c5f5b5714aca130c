use Rattle.std.proofs.Common.{◌≡◌, ℕ, ◌+◌, ◌≤◌, ◌++◌, length, None}
use Rattle.std.specs.List.{flat_map, range_with_len}
use Rattle.rv_asm.specs.Assembled.{binding_of}
use Rattle.demo_guest.specs.Guest.{routine_start}
use Rattle.demo_guest.specs.Private.Drafts.{routine_lines, AreRoutines}
use Rattle.demo_guest.proofs.code.emit_routines.Given as goal

-- The routines so far are written, and their labels are bound.
abbrev pub invariant-loop-routine : goal.invariant-loop-routine
invariant-loop-routine l = record {
  lines : l.program.lines ≡ l.initial.program.lines ++ flat_map routine_lines (range_with_len 0 l.routine);
  size : length l.program.lines ≡ routine_start (length l.labels) l.routine;
  count : length l.program.bindings ≡ 2 + length l.labels;
  bound : AreRoutines (length l.labels) l.routine l.program.bindings;
  unbound : (k : ℕ) → l.routine ≤ k → binding_of l.program.bindings (2 + k) ≡ None;
  main : binding_of l.program.bindings 0 ≡ binding_of l.initial.program.bindings 0;
  worker : binding_of l.program.bindings 1 ≡ binding_of l.initial.program.bindings 1;
}
