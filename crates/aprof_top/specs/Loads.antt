-- The files that a command loads: what each is for, its path, and then its bytes.
use Rattle.std.specs.Prelude.{ℕ, Bool, true, false, ◌||◌, nat_lt, List, [], ◌∷◌, ◌++◌, length, map, filter, zip, fold, sum_by, if◌then◌else◌}
use Rattle.std.specs.List.{list_any}
use Rattle.std.specs.Option.{option_to_list}
use Rattle.command_line.specs.Options.{Asked, GuestOptions, inputs}
use Rattle.command_line.specs.Options.Asked.{Guest, Replay, Demo}
use Rattle.guest_kernel.specs.Inputs.{Input as InputFile, with_input}
use Rattle.aprof_top.specs.Limits.{file_limit, inputs_limit, trace_limit}
use Rattle.aprof_top.specs.declared.source.Source.{Source}
use Rattle.aprof_top.specs.declared.source.Source.TheVariants.{Image, Input, Stdin, Schedule, Trace}

-- A file to load: what it is for, and its path.
pub record Load : Type 0 where
  pub source : Source
  pub path : List ℕ

abbrev pub load : Source → List ℕ → Load
load source path = record { source = source; path = path }

-- what a guest is run with besides its schedule, in order: the image, the input files, and standard input
abbrev pub loads_but_schedule : GuestOptions → List Load
loads_but_schedule guest = load Image guest.image ∷ (map (load Input) (inputs guest) ++ map (load Stdin) (option_to_list guest.stdin))

-- what a guest is run with: the schedule is loaded last
abbrev pub guest_loads : GuestOptions → List Load
guest_loads guest = loads_but_schedule guest ++ map (load Schedule) (option_to_list guest.schedule)

-- what is loaded for what the words ask, in order
abbrev pub loads_of : Asked → List Load
loads_of (Guest guest path analysis) = guest_loads guest
loads_of (Replay options) = load Trace options.trace ∷ []
loads_of (Demo number) = []

-- their paths
abbrev pub paths_in : List Load → List (List ℕ)
paths_in loads = map (λ load. load.path) loads

-- ---- the limits on lengths
-- the greatest length of a file, by what it is for
abbrev pub limit_of : Source → ℕ
limit_of Trace = trace_limit
limit_of _ = file_limit

-- the input files and standard input share a limit on their bytes
abbrev pub is_shared : Source → Bool
is_shared Input = true
is_shared Stdin = true
is_shared _ = false

-- the bytes of a file that count towards it
abbrev pub shared_bytes : Load × List ℕ → ℕ
shared_bytes file = if is_shared file.0.source then length file.1 else 0

-- Of the files that the first loads gave, one is too long, or those that share a limit are together.
abbrev pub passes_limit : List Load → List (List ℕ) → Bool
passes_limit loads files =
    list_any (λ file. nat_lt (limit_of file.0.source) (length file.1)) (zip loads files) || nat_lt inputs_limit (sum_by shared_bytes (zip loads files))

-- ---- the files that were loaded
-- The files of a command. What it does not load is empty.
pub record Loaded : Type 0 where
  pub image : List ℕ
  pub inputs : List InputFile
  pub stdin : List ℕ
  pub schedule : List ℕ
  pub trace : List ℕ

-- the same purpose
abbrev pub is : Source → Source → Bool
is Image Image = true
is Input Input = true
is Stdin Stdin = true
is Schedule Schedule = true
is Trace Trace = true
is _ _ = false

-- what was loaded for this purpose: the loads, each with the bytes that it gave
abbrev pub loaded_for : Source → List Load → List (List ℕ) → List (Load × List ℕ)
loaded_for source loads files = filter (λ file. is source file.0.source) (zip loads files)

-- the bytes of the file that was loaded for it; a command has one such load at most, but for inputs
abbrev pub file_for : Source → List Load → List (List ℕ) → List ℕ
file_for source loads files = fold (λ before file. file.1) [] (loaded_for source loads files)

-- the input files, each by its path
abbrev pub inputs_of : List (Load × List ℕ) → List InputFile
inputs_of files = fold (λ before file. with_input before file.0.path file.1) [] files

-- which is which
abbrev pub loaded_of : List Load → List (List ℕ) → Loaded
loaded_of loads files = record {
  image = file_for Image loads files;
  inputs = inputs_of (loaded_for Input loads files);
  stdin = file_for Stdin loads files;
  schedule = file_for Schedule loads files;
  trace = file_for Trace loads files;
}
