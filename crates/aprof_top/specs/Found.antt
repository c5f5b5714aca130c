-- What a call finds outside, by its words, and the written product's outcome over it.
use Rattle.std.specs.Prelude.{◌⊎◌, ◌≤◌, ℕ, List, [], length, zip, Option, Some, None}
use Rattle.std.specs.List.{AllByRecursion}
use Rattle.command_line.specs.Options.{Asked, AsksFor}
use Rattle.host_io.specs.Faults.{Rose}
use Rattle.host_io.specs.Files.{FilesState}
use Rattle.aprof_top.specs.Loads.{Load, limit_of, loads_of, paths_in}
use Rattle.aprof_top.specs.Outcome.{IsOutcome, Outcome}
use Rattle.aprof_top.specs.Outside.{AreHeld}

-- what is loaded, in order
abbrev pub asked_loads : Option Asked → List Load
asked_loads None = []
asked_loads (Some asked) = loads_of asked

-- and its paths
abbrev pub paths_of : Option Asked → List (List ℕ)
paths_of asked = paths_in (asked_loads asked)

-- What a call finds: what its words ask for, and the bytes of the first files that this loads, as far as the contents are
-- told. One of them is longer than its limit only where a load passed its limit in this call.
pub record Found (words : List (List ℕ)) (before after : FilesState) : Type 0 where
  pub asked : Option Asked
  pub asks : AsksFor words asked
  pub files : List (List ℕ)
  pub held : AreHeld before.contents (paths_of asked) files
  pub limit : AllByRecursion (λ file. length file.1 ≤ limit_of file.0.source) (zip (asked_loads asked) files) ⊎ Rose before.oversized after.oversized

-- What is found decides this outcome.
pub record Decision (words : List (List ℕ)) (before after : FilesState) : Type 0 where
  pub found : Found words before after
  pub outcome : Outcome
  pub written : IsOutcome found.asked found.files outcome
