-- A report as plain data.
use Rattle.std.specs.Prelude.{ℕ, List, Option}
use Rattle.guest_words.specs.declared.endings.Finish.{Finish}
use Rattle.cost_points.specs.declared.point.Point.{Point}
use Rattle.profile_report.specs.declared.report.ReportVersion.{ReportVersion}

-- A routine: its entry, the bytes of its name where it has one, and its points.
pub record ReportedRoutine : Type 0 where
  pub entry : ℕ
  pub name : Option (List ℕ)
  pub points : List Point

-- A report: the version of its text, how the run ended, its instructions, the activations that are still open, and the routines.
pub record Reported : Type 0 where
  pub version : ReportVersion
  pub finish : Finish
  pub steps : ℕ
  pub pending : ℕ
  pub routines : List ReportedRoutine
