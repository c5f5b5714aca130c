-- What the loads of a command find and leave.
use Rattle.std.specs.Prelude.{◌≡◌, ◌⊎◌, ℕ, ◌≤◌, false, true, List, [], length, zip, slice_get, Some, Vec, Result, Ok, Err}
use Rattle.std.specs.List.{AllByRecursion}
use Rattle.std.specs.declared.alloc.Global.{Global}
use Rattle.guest_kernel.specs.Inputs.{with_input}
use Rattle.host_io.specs.Faults.{Rose}
use Rattle.host_io.specs.Files.{ExceedsLimit, FailsAt, FilesState, GivesFile}
use Rattle.aprof_top.specs.Loads.{Load, Loaded, limit_of, loaded_of, passes_limit, paths_in}
use Rattle.aprof_top.specs.Outside.{AreHeld, MetTooLong}
use Rattle.aprof_top.specs.declared.ending.CommandEnding.{CommandEnding}
use Rattle.aprof_top.specs.declared.ending.CommandEnding.TheVariants.{CannotRead, Ended}
use Rattle.aprof_top.specs.declared.ending.Ending.TheVariants.{Decided, OutOfMemory}
use Rattle.aprof_top.specs.declared.ending.Verdict.TheVariants.{TooLarge}
use Rattle.aprof_top.specs.declared.loaded.Loaded as kept
use Rattle.aprof_top.specs.declared.source.Load as declared
use Rattle.aprof_top.specs.declared.source.Source.{Source}
use Rattle.aprof_top.specs.declared.source.Source.TheVariants.{Image, Input, Stdin, Schedule, Trace}

-- ---- as the program has them
-- a load
abbrev pub load_in : declared.Load → Load
load_in load = record { source = load.source; path = load.path.now }

-- the files of a command
abbrev pub loaded_in : kept.Loaded → Loaded
loaded_in files = record { image = files.image.items; inputs = files.inputs; stdin = files.stdin.items; schedule = files.schedule.items; trace = files.trace.items }

-- before the first load
abbrev pub no_files : Loaded
no_files = record { image = []; inputs = []; stdin = []; schedule = []; trace = [] }

-- with one more file, put to its use
abbrev pub used_for : Source → List ℕ → List ℕ → Loaded → Loaded
used_for Image path bytes files = record files { image = bytes }
used_for Input path bytes files = record files { inputs = with_input files.inputs path bytes }
used_for Stdin path bytes files = record files { stdin = bytes }
used_for Schedule path bytes files = record files { schedule = bytes }
used_for Trace path bytes files = record files { trace = bytes }

abbrev pub with_file : Load → List ℕ → Loaded → Loaded
with_file load bytes files = used_for load.source load.path bytes files

-- ---- one load
-- why it ends the command
abbrev pub FileEnds : Load → FilesState → FilesState → CommandEnding → Type 0
FileEnds load old new (CannotRead failed) = (load_in failed ≡ load) × FailsAt load.path old new × (new.contents ≡ old.contents)
FileEnds load old new (Ended (Decided verdict)) =
    (verdict ≡ TooLarge) × ExceedsLimit load.path (limit_of load.source) old new × (new.contents ≡ old.contents)
FileEnds load old new (Ended OutOfMemory) = new ≡ old
FileEnds load old new _ = ⊥

-- how it ends
abbrev pub FileLoads : Load → FilesState → FilesState → Result (Vec ℕ Global) CommandEnding → Type 0
FileLoads load old new (Ok bytes) = GivesFile load.path (limit_of load.source) bytes.items old new
FileLoads load old new (Err e) = FileEnds load old new e

-- ---- all loads of a command
-- none of these files is longer than its limit
abbrev pub AreWithin : List Load → List (List ℕ) → Type 0
AreWithin loads files = AllByRecursion (λ file. length file.1 ≤ limit_of file.0.source) (zip loads files)

-- These are the files of the first loads, and they pass no limit.
pub record AreFirst (loads : List Load) (files : List (List ℕ)) (old : FilesState) : Type 0 where
  pub held : AreHeld old.contents (paths_in loads) files
  pub each : AreWithin loads files
  pub few : passes_limit loads files ≡ false

-- The next load failed, of the file at this path.
pub record FailsToLoad (loads : List Load) (path : List ℕ) (old new : FilesState) : Type 0 where
  pub files : List (List ℕ)
  pub first : AreFirst loads files old
  pub next : slice_get (paths_in loads) (length files) ≡ Some path
  pub failed : FailsAt path old new
  pub contents : new.contents ≡ old.contents

-- A limit is passed.
pub record PassesLimit (loads : List Load) (old new : FilesState) : Type 0 where
  pub files : List (List ℕ)
  pub held : AreHeld old.contents (paths_in loads) files
  pub limit : AreWithin loads files ⊎ Rose old.oversized new.oversized
  pub many : passes_limit loads files ≡ true
  pub unchanged : (new ≡ old) ⊎ MetTooLong old new

-- why the loads of a command end it
abbrev pub LoadsEnd : List Load → FilesState → FilesState → CommandEnding → Type 0
LoadsEnd loads old new (CannotRead load) = FailsToLoad loads load.path.now old new
LoadsEnd loads old new (Ended (Decided verdict)) = (verdict ≡ TooLarge) × PassesLimit loads old new
LoadsEnd loads old new (Ended OutOfMemory) = new ≡ old
LoadsEnd loads old new _ = ⊥

-- All files of a command were loaded, and they pass no limit.
pub record LoadsAll (loads : List Load) (old new : FilesState) (loaded : Loaded) : Type 0 where
  pub files : List (List ℕ)
  pub first : AreFirst loads files old
  pub all : length files ≡ length loads
  pub loaded_is : loaded ≡ loaded_of loads files
  pub same : new ≡ old

-- how the loads of a command end
abbrev pub LoadsSo : List Load → FilesState → FilesState → Result kept.Loaded CommandEnding → Type 0
LoadsSo loads old new (Ok files) = LoadsAll loads old new (loaded_in files)
LoadsSo loads old new (Err e) = LoadsEnd loads old new e
