-- The text of a report.
use Rattle.std.specs.Prelude.{ℕ, List, ◌++◌, codes, length}
use Rattle.std.specs.List.{flat_map}
use Rattle.profile_report.specs.Reported.{ReportedRoutine, Reported}
use Rattle.profile_report.specs.LineForms.{ended, first_line, labelled, end_line, routine_line, point_line}

-- a routine's line, and a line for each of its points
abbrev pub routine_text : ReportedRoutine → List ℕ
routine_text r = ended (routine_line r.entry r.name) ++ flat_map (λ p. ended (point_line p)) r.points

-- the whole text: the version, how the run ended, its steps, what is still open, the routines, and how many they are
abbrev pub report_text : Reported → List ℕ
report_text r =
    ended (first_line r.version)
    ++ ended (end_line r.finish)
    ++ ended (labelled (codes "steps ") r.steps)
    ++ ended (labelled (codes "open ") r.pending)
    ++ flat_map routine_text r.routines
    ++ ended (labelled (codes "done ") (length r.routines))
