use Rattle.std.proofs.Common.{◌≡◌, take, map}
use Rattle.aprof_top.specs.Report.{named}
use Rattle.aprof_top.proofs.report.named_routines.Given as goal

abbrev pub invariant-loop-i : goal.invariant-loop-i
invariant-loop-i g l = l.routines.items ≡ map (named (g.N.RoutineNames.names l.names)) (take l.i l.table.routines)
