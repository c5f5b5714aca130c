use Rattle.std.proofs.Common.{◌≡◌, ℕ, List, length}
use Rattle.trace_model.specs.declared.event_kinds.Event.{Event}
use Rattle.trace_file.specs.Reading.{HasRead}
use Rattle.unit_tests.proofs.texts.read.Given as goal

abbrev pub invariant-loop-i : goal.invariant-loop-i
invariant-loop-i l = (bytes : List ℕ) × (past : List Event) × HasRead l.reader bytes past × (length bytes ≡ l.i)
