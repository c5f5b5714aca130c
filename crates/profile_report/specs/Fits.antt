-- What can stand in a report: numbers in their widths, names of routines, and points of activations.
use Rattle.std.specs.Prelude.{◌≡◌, ℕ, ◌<◌, ◌≤◌, ◌^◌, Bool, true, List, Option, IfSome, is_none, is_some}
use Rattle.guest_words.specs.Names.{is_name}
use Rattle.guest_words.specs.declared.limits.TheConstants.{LAST_TID}
use Rattle.guest_words.specs.declared.endings.Finish.{Finish}
use Rattle.guest_words.specs.declared.endings.Finish.TheVariants.{Exit, Fault, Schedule}
use Rattle.cost_points.specs.declared.point.Point.{Point}
use Rattle.cost_points.specs.declared.point.Split.{Split}
use Rattle.cost_points.specs.Valid.{IsPoint}
use Rattle.profile_report.specs.declared.report.ReportVersion.{ReportVersion}
use Rattle.profile_report.specs.declared.report.ReportVersion.TheVariants.{One, Two}

-- how a run ended: a status in 8 bits, a thread's number, an address, or a line counted from 1
abbrev pub FitsEnd : Finish → Type 0
FitsEnd (Exit status) = status < 2 ^ 8
FitsEnd (Fault kind tid at) = (1 ≤ tid) × (tid ≤ LAST_TID) × (at < 2 ^ 32)
FitsEnd (Schedule line) = (1 ≤ line) × (line < 2 ^ 64)
FitsEnd finish = Unit {0}

-- a name, where there is one
abbrev pub FitsName : Option (List ℕ) → Type 0
FitsName name = IfSome name (λ bytes. is_name bytes ≡ true)

-- the parts of a point's sizes, in 128 bits
pub record FitsSplit (s : Split) : Type 0 where
  pub plain : s.plain < 2 ^ 128
  pub thread : s.thread < 2 ^ 128
  pub kernel : s.kernel < 2 ^ 128
  pub bare : s.bare < 2 ^ 128

-- a point: the sum and the parts, where they are told, in 128 bits, the others in 64
pub record FitsPoint (p : Point) : Type 0 where
  pub size : p.size < 2 ^ 64
  pub calls : p.calls < 2 ^ 64
  pub least : p.least < 2 ^ 64
  pub most : p.most < 2 ^ 64
  pub sum : p.sum < 2 ^ 128
  pub split : IfSome p.split FitsSplit
  pub costs : IsPoint p

-- a point of the version: in version 1 the parts of its sizes are not told, and in version 2 they are
abbrev pub is_of_version : ReportVersion → Point → Bool
is_of_version One p = is_none p.split
is_of_version Two p = is_some p.split
