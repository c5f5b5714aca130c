-- The grammar of a report's lines: the text of each, which may come next, and where it leads.
use Rattle.std.specs.Prelude.{ℕ, ◌+◌, ◌-◌, ◌<◌, ◌^◌, Bool, true, false, ◌&&◌, ◌==◌, nat_lt, List, [], ◌∷◌, ◌++◌, codes, length, slice_get, Option, Some, None, is_some}
use Rattle.std.specs.Option.{option_map}
use Rattle.profile_report.specs.declared.line.Line.{Line}
use Rattle.profile_report.specs.declared.line.Line.TheVariants.{First, End, Steps, Open, OfRoutine, OfPoint, Done}
use Rattle.profile_report.specs.declared.parse_state.ParseState.{ParseState}
use Rattle.profile_report.specs.declared.parse_state.ParseState.TheVariants.{AtVersion, AtEnd, AtSteps, AtOpen, AtRoutines, Over}
use Rattle.profile_report.specs.Reported.{ReportedRoutine, Reported}
use Rattle.profile_report.specs.Fits.{FitsEnd, FitsName, FitsPoint, is_of_version}
use Rattle.profile_report.specs.LineForms.{first_line, labelled, end_line, routine_line, point_line}

-- what a line says, as its text, without the byte that ends it
abbrev pub line_text : Line → List ℕ
line_text (First version) = first_line version
line_text (End finish) = end_line finish
line_text (Steps steps) = labelled (codes "steps ") steps
line_text (Open pending) = labelled (codes "open ") pending
line_text (OfRoutine entry name) = routine_line entry name
line_text (OfPoint p) = point_line p
line_text (Done routines) = labelled (codes "done ") routines

-- the numbers of a line are in their widths, a name is a name, and a point is one of activations
abbrev pub FitsLine : Line → Type 0
FitsLine (First version) = Unit {0}
FitsLine (End finish) = FitsEnd finish
FitsLine (Steps steps) = steps < 2 ^ 64
FitsLine (Open pending) = pending < 2 ^ 64
FitsLine (OfRoutine entry name) = (entry < 2 ^ 32) × FitsName name
FitsLine (OfPoint p) = FitsPoint p
FitsLine (Done routines) = routines < 2 ^ 64

-- the routines that are whole, and the one that began last
abbrev pub closed : Reported → Option ReportedRoutine → Reported
closed r None = r
closed r (Some routine) = record r { routines = r.routines ++ routine ∷ [] }

-- each routine that began has a point
abbrev pub has_points : Option ReportedRoutine → Bool
has_points None = true
has_points (Some routine) = nat_lt 0 (length routine.points)

-- how many routines began
abbrev pub count_of : Reported → Option ReportedRoutine → ℕ
count_of r None = length r.routines
count_of r (Some routine) = length r.routines + 1

-- Which line may come next. A point of the text's version comes behind a routine's line or a point, and a routine or the end behind a point.
abbrev pub may_stand : ParseState → Line → Bool
may_stand AtVersion (First version) = true
may_stand (AtEnd v) (End finish) = true
may_stand (AtSteps v f) (Steps steps) = true
may_stand (AtOpen v f n) (Open pending) = true
may_stand (AtRoutines r begun) (OfRoutine entry name) = has_points begun
may_stand (AtRoutines r begun) (OfPoint p) = is_some begun && is_of_version r.version p
may_stand (AtRoutines r begun) (Done routines) = has_points begun && (routines == count_of r begun)
may_stand state line = false

-- the entry of the routine that began last
abbrev pub last_entry : Option ReportedRoutine → Option ℕ
last_entry None = None
last_entry (Some routine) = Some routine.entry

-- the last size of the routine that began last
abbrev pub last_size : Option ReportedRoutine → Option ℕ
last_size None = None
last_size (Some routine) = option_map (λ p. p.size) (slice_get routine.points (length routine.points - 1))

-- a number is above the last one, where there is one
abbrev pub is_above : Option ℕ → ℕ → Bool
is_above None n = true
is_above (Some last) n = nat_lt last n

-- the line keeps the order: entries rise, and sizes rise within a routine
abbrev pub rises : ParseState → Line → Bool
rises (AtRoutines r begun) (OfRoutine entry name) = is_above (last_entry begun) entry
rises (AtRoutines r begun) (OfPoint p) = is_above (last_size begun) p.size
rises state line = true

-- the state behind a line that may come in this one
abbrev pub next : ParseState → Line → ParseState
next AtVersion (First version) = AtEnd version
next (AtEnd v) (End finish) = AtSteps v finish
next (AtSteps v f) (Steps steps) = AtOpen v f steps
next (AtOpen v f n) (Open pending) = AtRoutines (record { version = v; finish = f; steps = n; pending = pending; routines = [] }) None
next (AtRoutines r begun) (OfRoutine entry name) = AtRoutines (closed r begun) (Some (record { entry = entry; name = name; points = [] }))
next (AtRoutines r (Some routine)) (OfPoint p) = AtRoutines r (Some (record routine { points = routine.points ++ p ∷ [] }))
next (AtRoutines r begun) (Done routines) = Over (closed r begun)
next state line = state
