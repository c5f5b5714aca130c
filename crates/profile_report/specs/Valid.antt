-- The reports that have a text.
use Rattle.std.specs.Prelude.{◌≡◌, ◌<◌, ◌≤◌, ◌^◌, true, length, map}
use Rattle.std.specs.List.{AllByRecursion}
use Rattle.cost_points.specs.Keys.{IsRising}
use Rattle.profile_report.specs.declared.report.ReportVersion.{ReportVersion}
use Rattle.profile_report.specs.Fits.{FitsEnd, FitsName, FitsPoint, is_of_version}
use Rattle.profile_report.specs.Reported.{ReportedRoutine, Reported}

-- A routine has at least one point, its sizes rise, and each is a point of the version.
pub record IsValidRoutine (v : ReportVersion) (r : ReportedRoutine) : Type 0 where
  pub entry : r.entry < 2 ^ 32
  pub name : FitsName r.name
  pub some : 1 ≤ length r.points
  pub sizes : IsRising (map (λ p. p.size) r.points)
  pub points : AllByRecursion FitsPoint r.points
  pub version : AllByRecursion (λ p. is_of_version v p ≡ true) r.points

-- The numbers are in their widths, and the entries of the routines rise.
pub record IsValid (r : Reported) : Type 0 where
  pub finish : FitsEnd r.finish
  pub steps : r.steps < 2 ^ 64
  pub pending : r.pending < 2 ^ 64
  pub entries : IsRising (map (λ q. q.entry) r.routines)
  pub routines : AllByRecursion (IsValidRoutine r.version) r.routines
