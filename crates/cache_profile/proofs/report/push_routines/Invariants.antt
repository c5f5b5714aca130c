use Rattle.std.proofs.Common.{◌≡◌, ◌++◌, take}
use Rattle.std.specs.List.{flat_map}
use Rattle.cache_profile.specs.ReportText.{routine_text}
use Rattle.cache_profile.proofs.report.push_routines.Given as goal

abbrev pub invariant-loop-routine : goal.invariant-loop-routine
invariant-loop-routine l = l.text.items ≡ l.initial.text.items ++ flat_map routine_text (take l.routine-index l.routines)
