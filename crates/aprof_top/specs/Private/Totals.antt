-- The totals of a summary, as they are added up.
use Rattle.std.specs.Prelude.{◌<◌, ◌^◌, List}
use Rattle.profile_report.specs.Reported.{ReportedRoutine}
use Rattle.aprof_top.specs.Summary.{activations, sizes, costs}

-- Each total is below 2^128.
pub record FitsTotals (routines : List ReportedRoutine) : Type 0 where
  pub activations : activations routines < 2 ^ 128
  pub sizes : sizes routines < 2 ^ 128
  pub costs : costs routines < 2 ^ 128
