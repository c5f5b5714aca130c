-- The summary of a report: the demo's number, how the run ended, and the totals.
use Rattle.std.specs.Prelude.{◌*◌, ℕ, List, ◌++◌, codes, length}
use Rattle.std.specs.List.{sum_by}
use Rattle.cost_points.specs.declared.point.Point.{Point}
use Rattle.profile_report.specs.LineForms.{end_line, ended, labelled}
use Rattle.profile_report.specs.Reported.{Reported, ReportedRoutine}

-- the sum of a number of each point, over all routines
abbrev pub total : (Point → ℕ) → List ReportedRoutine → ℕ
total number routines = sum_by (λ r. sum_by number r.points) routines

-- how many activations there were
abbrev pub activations : List ReportedRoutine → ℕ
activations routines = total (λ p. p.calls) routines

-- the sum of the sizes of all activations
abbrev pub sizes : List ReportedRoutine → ℕ
sizes routines = total (λ p. p.size * p.calls) routines

-- the sum of the costs of all activations
abbrev pub costs : List ReportedRoutine → ℕ
costs routines = total (λ p. p.sum) routines

-- the lines of a demo's summary
abbrev pub summary_text : ℕ → Reported → List ℕ
summary_text number report =
    ended (labelled (codes "demo ") number)
    ++ ended (end_line report.finish)
    ++ ended (labelled (codes "steps ") report.steps)
    ++ ended (labelled (codes "routines ") (length report.routines))
    ++ ended (labelled (codes "activations ") (activations report.routines))
    ++ ended (labelled (codes "sizes ") (sizes report.routines))
    ++ ended (labelled (codes "costs ") (costs report.routines))
