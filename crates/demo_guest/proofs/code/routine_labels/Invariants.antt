use Rattle.std.proofs.Common.{◌≡◌, ℕ, ◌+◌, length, None}
use Rattle.std.specs.List.{range_with_len}
use Rattle.rv_asm.specs.Assembled.{binding_of}
use Rattle.demo_guest.proofs.code.routine_labels.Given as goal

-- The labels so far are made, and none is bound.
abbrev pub invariant-loop : goal.invariant-loop
invariant-loop l = record {
  labels : l.labels.items ≡ range_with_len 2 l.counter;
  lines : l.program.lines ≡ l.initial.program.lines;
  bindings : length l.program.bindings ≡ 2 + l.counter;
  unbound : (k : ℕ) → binding_of l.program.bindings k ≡ None;
}
