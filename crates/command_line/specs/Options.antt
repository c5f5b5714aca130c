-- What the words of a command line ask for.
use Rattle.std.specs.Prelude.{◌≡◌, ◌⊎◌, ℕ, Bool, false, ◌&&◌, ◌==◌, not, nat_eq, nat_le, if◌then◌else◌, List, [], ◌∷◌, length, drop, map, filter, Option, Some, None, option_and_then, option_map, unwrap_or, codes}
use Rattle.std.specs.List.{list_all, list_any, starts_with}
use Rattle.std.specs.Option.{option_map_or}
use Rattle.std.specs.Str.{bytes_eq}
use Rattle.std.specs.Str.Parse.{digits_value}
use Rattle.guest_words.specs.declared.limits.TheConstants.{DEMO_ROUTINES, QUANTUM_STEPS, RUN_STEPS}
use Rattle.command_line.specs.declared.guest_options.TheConstants.{DEFAULT_BUDGET, DEFAULT_QUANTUM}
use Rattle.cache_lines.specs.Shapes.{Dimensions, shape_of}
use Rattle.cache_lines.specs.declared.shape.TheConstants.{LINE, SETS, WAYS}
use Rattle.stamps.specs.declared.width.StampBits.{StampBits}
use Rattle.stamps.specs.declared.width.StampBits.TheVariants.{B8, B16, B32}
use Rattle.clap.specs.Words.{Row, all_of, first_of, subcommand_of, takes}
use Rattle.command_line.specs.App.{the_app}

-- How a guest is run: what every command that runs one is asked.
pub record GuestOptions : Type 0 where
  -- the paths of the guest's standard input and of a schedule to follow
  pub stdin : Option (List ℕ)
  pub schedule : Option (List ℕ)
  -- the steps of a turn, and of the whole run
  pub quantum : ℕ
  pub budget : ℕ
  -- the path of the image, and the further words
  pub image : List ℕ
  pub words : List (List ℕ)

-- What `run` is asked beside.
pub record RunOptions : Type 0 where
  -- the path of a recording to write
  pub recording : Option (List ℕ)
  -- the width of stamps
  pub bits : StampBits
  -- whether the number of renumberings is to be put
  pub stats : Bool

-- What is made of a guest's run, by what a command has beside how its guest is run: the report of `run`, the trace, the misses of
-- a cache of this shape, or the report with its calling contexts by stamps of this width.
pub data Analysis : Type 0 where
  Run : RunOptions → Analysis
  Trace : Analysis
  Cache : Dimensions → Analysis
  Contexts : StampBits → Analysis

-- What `replay` is asked.
pub record ReplayOptions : Type 0 where
  -- the path of the trace
  pub trace : List ℕ
  -- the path of the report
  pub report : List ℕ
  -- the width of stamps
  pub bits : StampBits
  -- whether the number of renumberings is to be put
  pub stats : Bool

-- ---- the further words

-- the word stands for itself: it begins with `=`
abbrev pub is_plain_argument : List ℕ → Bool
is_plain_argument word = starts_with nat_eq word (codes "=")

-- the argument that a word gives the guest
abbrev pub argument_of : List ℕ → List ℕ
argument_of word = if is_plain_argument word then drop 1 word else word

-- the guest's arguments: the image's path, and the words without their `=`
abbrev pub arguments : GuestOptions → List (List ℕ)
arguments guest = guest.image ∷ map argument_of guest.words

-- each of the names once, where it stands first
abbrev pub distinct : List (List ℕ) → List (List ℕ)
distinct [] = []
distinct (name ∷ rest) = name ∷ filter (λ other. not (bytes_eq name other)) (distinct rest)

-- the words that name files
abbrev pub names : List (List ℕ) → List (List ℕ)
names words = filter (λ word. not (is_plain_argument word)) words

-- the names of the input files, each once
abbrev pub inputs : GuestOptions → List (List ℕ)
inputs guest = distinct (names guest.words)

-- ---- numbers

abbrev pub is_digit : ℕ → Bool
is_digit byte = nat_le 48 byte && nat_le byte 57

-- one to twenty digits; leading zeros are taken
abbrev pub is_numeral : List ℕ → Bool
is_numeral text = nat_le 1 (length text) && nat_le (length text) 20 && list_all is_digit text

-- the number that the text says, if that is in the range
abbrev pub number_between : ℕ → ℕ → List ℕ → Option ℕ
number_between least greatest text =
    let number = digits_value 10 text in
    if is_numeral text && nat_le least number && nat_le number greatest then Some number else None

-- the number of an option that may be left out
abbrev pub number_or : ℕ → ℕ → ℕ → Option (List ℕ) → Option ℕ
number_or usual least greatest None = Some usual
number_or usual least greatest (Some text) = number_between least greatest text

-- ---- the options

-- the steps of a turn: 1 to `QUANTUM_STEPS`
abbrev pub quantum_of : Option (List ℕ) → Option ℕ
quantum_of = number_or DEFAULT_QUANTUM 1 QUANTUM_STEPS

-- the steps of a run: 1 to `RUN_STEPS`
abbrev pub budget_of : Option (List ℕ) → Option ℕ
budget_of = number_or DEFAULT_BUDGET 1 RUN_STEPS

-- the width of that many bits
abbrev pub width_of : ℕ → Option StampBits
width_of number = if number == 8 then Some B8 else if number == 16 then Some B16 else if number == 32 then Some B32 else None

-- the width of stamps: 8, 16 or 32 bits
abbrev pub bits_of : Option (List ℕ) → Option StampBits
bits_of text = option_and_then width_of (number_or 32 8 32 text)

-- an option without a value is given: `clap` gives it the value `true`
abbrev pub has_flag : List ℕ → List Row → Bool
has_flag name rows = option_map_or (λ text. bytes_eq text (codes "true")) (first_of name rows) false

-- the guest's options with these two numbers and this path, where all of them are there; the rest is read of the rows
abbrev pub guest_with : List Row → Option ℕ → Option ℕ → Option (List ℕ) → Option GuestOptions
guest_with rows (Some quantum) (Some budget) (Some image) = Some (record {
  stdin = first_of (codes "stdin") rows;
  schedule = first_of (codes "schedule") rows;
  quantum = quantum;
  budget = budget;
  image = image;
  words = unwrap_or (all_of (codes "word") rows) [];
})
guest_with rows _ _ _ = None

-- the guest's options that `clap`'s matches say: `None` where a number is out of its form or range
abbrev pub guest_of_rows : List Row → Option GuestOptions
guest_of_rows rows = guest_with rows
    (quantum_of (first_of (codes "quantum") rows))
    (budget_of (first_of (codes "budget") rows))
    (first_of (codes "image") rows)

-- the number that a text says, 1 to the greatest
abbrev pub number_to : ℕ → Option (List ℕ) → Option ℕ
number_to greatest text = option_and_then (number_between 1 greatest) text

-- the shape of a cache of these numbers, where all are there
abbrev pub shape_with : Option ℕ → Option ℕ → Option ℕ → Option Dimensions
shape_with (Some sets) (Some ways) (Some line) = shape_of sets ways line
shape_with _ _ _ = None

-- the shape that these texts say
abbrev pub shape_said : Option (List ℕ) → Option (List ℕ) → Option (List ℕ) → Option Dimensions
shape_said sets ways line = shape_with (number_to SETS sets) (number_to WAYS ways) (number_to LINE line)

-- the shape that `clap`'s matches say
abbrev pub shape_of_rows : List Row → Option Dimensions
shape_of_rows rows = shape_said (first_of (codes "sets") rows) (first_of (codes "ways") rows) (first_of (codes "line") rows)

-- what `run` is asked beside, with this width, where that is there; the rest is read of the rows
abbrev pub run_with : List Row → Option StampBits → Option Analysis
run_with rows (Some bits) = Some (Run (record { recording = first_of (codes "record") rows; bits = bits; stats = has_flag (codes "stats") rows }))
run_with rows None = None

-- what the command of this name makes of its guest's run, by `clap`'s matches
abbrev pub analysis_of_rows : List ℕ → List Row → Option Analysis
analysis_of_rows name rows =
    if bytes_eq name (codes "run") then run_with rows (bits_of (first_of (codes "stamps") rows))
    else if bytes_eq name (codes "trace") then Some Trace
    else if bytes_eq name (codes "cache") then option_map Cache (shape_of_rows rows)
    else if bytes_eq name (codes "contexts") then option_map Contexts (bits_of (first_of (codes "stamps") rows))
    else None

-- the options of `replay` with this trace, this path and this width, where all are there; the rest is read of the rows
abbrev pub replay_with : List Row → Option (List ℕ) → Option (List ℕ) → Option StampBits → Option ReplayOptions
replay_with rows (Some trace) (Some report) (Some bits) = Some (record { trace = trace; report = report; bits = bits; stats = has_flag (codes "stats") rows })
replay_with rows _ _ _ = None

-- the options of `replay` that `clap`'s matches say
abbrev pub replay_of_rows : List Row → Option ReplayOptions
replay_of_rows rows = replay_with rows (first_of (codes "trace") rows) (first_of (codes "output") rows) (bits_of (first_of (codes "stamps") rows))

-- ---- the demos

-- the number of a demo: 1 to `DEMO_ROUTINES`
abbrev pub demo_of : List ℕ → Option ℕ
demo_of = number_between 1 DEMO_ROUTINES

-- the number that `clap`'s matches say: `None` where it is out of its form or range
abbrev pub demo_of_rows : List Row → Option ℕ
demo_of_rows rows = option_and_then demo_of (first_of (codes "number") rows)

-- ---- the words

-- What the words ask for: a guest's run, with the path of what is stored of it and what is made of it, the report of a stored
-- trace, or the demo of a number.
pub data Asked : Type 0 where
  Guest : GuestOptions → List ℕ → Analysis → Asked
  Replay : ReplayOptions → Asked
  Demo : ℕ → Asked

-- the run of this guest, with this path and analysis, where all are there
abbrev pub guest_asked_with : Option GuestOptions → Option (List ℕ) → Option Analysis → Option Asked
guest_asked_with (Some guest) (Some output) (Some analysis) = Some (Guest guest output analysis)
guest_asked_with _ _ _ = None

-- what a command that runs a guest asks for, by its name and its matches
abbrev pub guest_asked_of_rows : List ℕ → List Row → Option Asked
guest_asked_of_rows name rows = guest_asked_with (guest_of_rows rows) (first_of (codes "output") rows) (analysis_of_rows name rows)

-- what a subcommand asks for, by its name and its matches
abbrev pub asked_of_rows : List ℕ → List Row → Option Asked
asked_of_rows name rows =
    if bytes_eq name (codes "replay") then option_map Replay (replay_of_rows rows)
    else if bytes_eq name (codes "demo") then option_map Demo (demo_of_rows rows)
    else guest_asked_of_rows name rows

abbrev pub has_zero : List ℕ → Bool
has_zero word = list_any (λ byte. byte == 0) word

-- What the words of a command line say, the program's name first: `None` where a word has a zero byte, `clap` states no
-- subcommand, or a number is out of its form or range.
unfoldable pub asked_of : List (List ℕ) → Option Asked
asked_of words =
    if list_any has_zero words then None
    else option_and_then (λ found. asked_of_rows found.0 found.1) (subcommand_of the_app words)

-- What the words ask for; where `clap`'s stated test does not take them, a refusal is right too.
abbrev pub AsksFor : List (List ℕ) → Option Asked → Type 0
AsksFor words asked = (asked ≡ asked_of words) ⊎ ((asked ≡ None) × (takes the_app words ≡ false))
