use Rattle.std.proofs.Common.{◌≡◌, ◌<◌, ◌+◌, length}
use Rattle.unit_tests.proofs.assembler.branch_over.Given as goal

-- The branch and the words behind it are written, and the label is there.
abbrev pub invariant-loop : goal.invariant-loop
invariant-loop l = record {
  lines : length l.program.lines ≡ 1 + l.counter;
  label : l.there < length l.program.bindings;
}
