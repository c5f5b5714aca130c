-- The report of a run, by its past, the list of its events with the newest first: how it ended, its instructions, the
-- activations that are still open, and the points of those that ended, by routines with their names among these. It tells the
-- parts of the sizes, as a report of version 2 does.
use Rattle.std.specs.Prelude.{ℕ, List, map}
use Rattle.guest_words.specs.declared.endings.Finish.{Finish}
use Rattle.elf_image.specs.Image.{name_beside}
use Rattle.trace_model.specs.declared.event_kinds.Event.{Event}
use Rattle.trace_model.specs.Depth.{pending}
use Rattle.trace_model.specs.Profile.{done, steps}
use Rattle.cost_points.specs.Points.{Routine, points}
use Rattle.profile_report.specs.declared.report.ReportVersion.TheVariants.{Two}
use Rattle.profile_report.specs.Reported.{Reported, ReportedRoutine}

-- a routine with the name that stands beside its entry
abbrev pub named : List (ℕ × List ℕ) → Routine → ReportedRoutine
named names routine = record { entry = routine.entry; name = name_beside names routine.entry; points = routine.points }

-- the report of a run that ended so, by its past
abbrev pub report_of : List (ℕ × List ℕ) → Finish → List Event → Reported
report_of names finish past = record {
  version = Two;
  finish = finish;
  steps = steps past;
  pending = pending past;
  routines = map (named names) (points (done past));
}
