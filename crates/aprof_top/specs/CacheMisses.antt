-- The cache misses of a run, by its past, the list of its events with the newest first.
use Rattle.std.specs.Prelude.{List, map}
use Rattle.guest_words.specs.declared.endings.Finish.{Finish}
use Rattle.elf_image.specs.Image.{Executable, name_of}
use Rattle.trace_model.specs.declared.event_kinds.Event.{Event}
use Rattle.trace_model.specs.Profile.{steps}
use Rattle.cache_lines.specs.Shapes.{Dimensions}
use Rattle.cache_profile.specs.declared.routines.RoutineMisses.{RoutineMisses}
use Rattle.cache_profile.specs.ByRoutine.{all_accesses, by_routine}
use Rattle.cache_profile.specs.ReportText.{Reported, ReportedMisses}

-- a routine's counts, with the name that the executable gives its entry
abbrev pub named_misses : Executable → RoutineMisses → ReportedMisses
named_misses image counts = record { counts = counts; name = name_of image counts.entry }

-- the report of a run that ended so, by its past, for a cache of the shape
abbrev pub misses_of : Dimensions → Executable → Finish → List Event → Reported
misses_of shape image finish past = record {
  finish = finish;
  steps = steps past;
  routines = map (named_misses image) (by_routine (all_accesses shape past));
}
