use Rattle.std.proofs.Common.{◌≡◌, ◌++◌, take}
use Rattle.std.specs.List.{flat_map}
use Rattle.profile_report.specs.LineForms.{ended, point_line}
use Rattle.profile_report.proofs.writer.push_points.Given as goal

abbrev pub invariant-loop-point : goal.invariant-loop-point
invariant-loop-point l = l.text.items ≡ l.initial.text.items ++ flat_map (λ p. ended (point_line p)) (take l.point-index l.points)
