use Rattle.std.proofs.Common.{◌≡◌, ◌++◌, take}
use Rattle.std.specs.List.{flat_map}
use Rattle.profile_report.specs.ReportText.{routine_text}
use Rattle.profile_report.proofs.writer.push_routines.Given as goal

abbrev pub invariant-loop-routine : goal.invariant-loop-routine
invariant-loop-routine l = l.text.items ≡ l.initial.text.items ++ flat_map routine_text (take l.routine-index l.routines)
