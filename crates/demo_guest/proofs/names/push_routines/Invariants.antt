use Rattle.std.proofs.Common.{◌≡◌, ◌++◌, map}
use Rattle.std.specs.List.{range_with_len}
use Rattle.demo_guest.specs.Guest.{routine_start}
use Rattle.demo_guest.specs.Image.{routine_symbol}
use Rattle.demo_guest.proofs.names.push_routines.Given as goal

-- The symbols so far are written, and the next routine begins at `place`.
abbrev pub invariant-loop-routine : goal.invariant-loop-routine
invariant-loop-routine l = record {
  symbols : l.symbols.items ≡ l.initial.symbols.items ++ map (routine_symbol l.routines) (range_with_len 0 l.routine);
  word : l.word ≡ routine_start l.routines l.routine;
}
