-- The text of a report of cache misses.
use Rattle.std.specs.Prelude.{ℕ, List, ◌++◌, codes, length, Option}
use Rattle.std.specs.List.{flat_map}
use Rattle.std.specs.Fmt.{decimal}
use Rattle.guest_words.specs.declared.endings.Finish.{Finish}
use Rattle.profile_report.specs.LineForms.{end_line, ended, labelled, routine_line}
use Rattle.cache_profile.specs.declared.routines.RoutineMisses.{RoutineMisses}

-- A routine: its counts, and the bytes of its name where it has one.
pub record ReportedMisses : Type 0 where
  pub counts : RoutineMisses
  pub name : Option (List ℕ)

-- A report: how the run ended, its instructions, and the routines that have line accesses.
pub record Reported : Type 0 where
  pub finish : Finish
  pub steps : ℕ
  pub routines : List ReportedMisses

-- how many accesses there are, and how many of them miss
abbrev pub counts_line : RoutineMisses → List ℕ
counts_line counts = decimal counts.accesses ++ labelled (codes " ") counts.misses

-- a routine's line, and that of its counts
abbrev pub routine_text : ReportedMisses → List ℕ
routine_text r = ended (routine_line r.counts.entry r.name) ++ ended (counts_line r.counts)

-- the whole text: the version, how the run ended, its steps, the routines, and how many they are
abbrev pub cache_text : Reported → List ℕ
cache_text r =
    ended (codes "aprof cache 1")
    ++ ended (end_line r.finish)
    ++ ended (labelled (codes "steps ") r.steps)
    ++ flat_map routine_text r.routines
    ++ ended (labelled (codes "done ") (length r.routines))
