-- Plain words of the commands, and what is read of them.
use Rattle.std.specs.Prelude.{◌≡◌, ◌<◌, ◌^◌, ◌==◌, ◌⊎◌, ℕ, Bool, true, false, not, length, if◌then◌else◌, List, [], ◌∷◌, ◌++◌, Option, Some, None, option_map, codes}
use Rattle.std.specs.List.{list_all, list_any}
use Rattle.std.specs.Option.{option_map_or}
use Rattle.std.specs.Str.{bytes_eq}
use Rattle.stamps.specs.declared.width.StampBits.{StampBits}
use Rattle.clap.specs.Words.{Text, takes}
use Rattle.command_line.specs.App.{the_app}
use Rattle.command_line.specs.Options.{Analysis, Asked, GuestOptions, asked_of, bits_of, budget_of, demo_of, has_zero, quantum_of, shape_said}

-- The commands that run a guest.
pub data GuestCommand : Type 0 where
  running : GuestCommand
  tracing : GuestCommand
  caching : GuestCommand
  telling_contexts : GuestCommand

-- its name
abbrev pub name_of : GuestCommand → Text
name_of running = codes "run"
name_of tracing = codes "trace"
name_of caching = codes "cache"
name_of telling_contexts = codes "contexts"

-- an option of a command that runs a guest or of `replay`, with its value where it takes one
pub data Choice : Type 0 where
  stdin : Text → Choice
  quantum : Text → Choice
  schedule : Text → Choice
  recording : Text → Choice
  budget : Text → Choice
  stamps : Text → Choice
  stats : Choice
  report : Text → Choice
  sets : Text → Choice
  ways : Text → Choice
  line : Text → Choice

-- the argument of the command that it is of
abbrev pub id_of : Choice → Text
id_of (stdin v) = codes "stdin"
id_of (quantum v) = codes "quantum"
id_of (schedule v) = codes "schedule"
id_of (recording v) = codes "record"
id_of (budget v) = codes "budget"
id_of (stamps v) = codes "stamps"
id_of stats = codes "stats"
id_of (report v) = codes "output"
id_of (sets v) = codes "sets"
id_of (ways v) = codes "ways"
id_of (line v) = codes "line"

-- its value: `stats` has none
abbrev pub value_of : Choice → Option Text
value_of (stdin v) = Some v
value_of (quantum v) = Some v
value_of (schedule v) = Some v
value_of (recording v) = Some v
value_of (budget v) = Some v
value_of (stamps v) = Some v
value_of stats = None
value_of (report v) = Some v
value_of (sets v) = Some v
value_of (ways v) = Some v
value_of (line v) = Some v

-- the words that give it
abbrev pub words_of : Choice → List Text
words_of (stdin v) = codes "--stdin" ∷ v ∷ []
words_of (quantum v) = codes "--quantum" ∷ v ∷ []
words_of (schedule v) = codes "--schedule" ∷ v ∷ []
words_of (recording v) = codes "--record" ∷ v ∷ []
words_of (budget v) = codes "--budget" ∷ v ∷ []
words_of (stamps v) = codes "--stamps" ∷ v ∷ []
words_of stats = codes "--stats" ∷ []
words_of (report v) = codes "-o" ∷ v ∷ []
words_of (sets v) = codes "--sets" ∷ v ∷ []
words_of (ways v) = codes "--ways" ∷ v ∷ []
words_of (line v) = codes "--line" ∷ v ∷ []

abbrev pub choice_words : List Choice → List Text
choice_words [] = []
choice_words (c ∷ cs) = words_of c ++ choice_words cs

-- the words of a whole command line: the program's name, that of the command, the options, the path behind them and the further
-- words
abbrev pub named_words : Text → Text → List Choice → Text → List Text → List Text
named_words name program choices path words = program ∷ name ∷ (choice_words choices ++ path ∷ words)

-- those of a command that runs a guest, with its image
abbrev pub guest_words : GuestCommand → Text → List Choice → Text → List Text → List Text
guest_words command = named_words (name_of command)

-- and of `replay`, with the trace behind the options
abbrev pub replay_words : Text → List Choice → Text → List Text
replay_words program choices trace = named_words (codes "replay") program choices trace []

-- the option says how a guest is run, or where the result is stored
abbrev pub is_of_all : Choice → Bool
is_of_all (stdin v) = true
is_of_all (quantum v) = true
is_of_all (schedule v) = true
is_of_all (budget v) = true
is_of_all (report v) = true
is_of_all _ = false

-- the option is one of the command
abbrev pub is_of : GuestCommand → Choice → Bool
is_of running (recording v) = true
is_of running (stamps v) = true
is_of running stats = true
is_of caching (sets v) = true
is_of caching (ways v) = true
is_of caching (line v) = true
is_of telling_contexts (stamps v) = true
is_of command c = is_of_all c

-- the option is one of `replay`
abbrev pub is_of_replay : Choice → Bool
is_of_replay (stamps v) = true
is_of_replay stats = true
is_of_replay (report v) = true
is_of_replay _ = false

-- a word that is not empty and does not begin with a hyphen
abbrev pub is_plain_word : Text → Bool
is_plain_word [] = false
is_plain_word (x ∷ xs) = not (x == 45)

-- its value, if it has one, is such a word
abbrev pub has_plain_value : Choice → Bool
has_plain_value c = option_map_or is_plain_word (value_of c) true

-- some choice is of this argument
abbrev pub is_chosen : Text → List Choice → Bool
is_chosen id choices = list_any (λ c. bytes_eq id (id_of c)) choices

-- each option at most once
abbrev pub HasNoRepeat : List Choice → Type 0
HasNoRepeat [] = Unit {0}
HasNoRepeat (c ∷ cs) = (is_chosen (id_of c) cs ≡ false) × HasNoRepeat cs

-- Each option is given at most once, and no value, further word or path of an image or a trace looks like an option.
pub record ArePlain (choices : List Choice) (image : Text) (words : List Text) : Type 0 where
  pub plain_values : list_all has_plain_value choices ≡ true
  pub once : HasNoRepeat choices
  pub plain_image : is_plain_word image ≡ true
  pub plain_words : list_all is_plain_word words ≡ true
  -- as many as a list in memory can have
  pub few : length words < 2 ^ 64

-- the options that the command has to have
abbrev pub required : GuestCommand → List Text
required caching = codes "sets" ∷ codes "ways" ∷ codes "line" ∷ codes "output" ∷ []
required command = codes "output" ∷ []

-- they are among the choices
abbrev pub HasRequired : GuestCommand → List Choice → Type 0
HasRequired command choices = list_all (λ id. is_chosen id choices) (required command) ≡ true

-- Plain words of a command that runs a guest are taken, where each option is one of the command and those that it has to have are
-- among them.
abbrev pub PlainWordsAreTaken : Type 0
PlainWordsAreTaken = (command : GuestCommand) (program : Text) (choices : List Choice) (image : Text) (words : List Text)
    → ArePlain choices image words → list_all (is_of command) choices ≡ true → HasRequired command choices
    → takes the_app (guest_words command program choices image words) ≡ true

-- the value that the choices give an argument
abbrev pub given : Text → List Choice → Option Text
given id [] = None
given id (c ∷ cs) = if bytes_eq (id_of c) id then value_of c else given id cs

-- the guest's options that the choices say, with these numbers, this image and these further words
abbrev pub guest_given : List Choice → ℕ → ℕ → Text → List Text → GuestOptions
guest_given choices turn_steps run_steps image words = record {
  stdin = given (codes "stdin") choices;
  schedule = given (codes "schedule") choices;
  quantum = turn_steps;
  budget = run_steps;
  image = image;
  words = words;
}

-- what the choices ask `run` beside, with this width
abbrev pub run_given : List Choice → StampBits → Analysis
run_given choices width =
    Analysis.Run (record { recording = given (codes "record") choices; bits = width; stats = is_chosen (codes "stats") choices })

-- what the command makes of its guest's run, by the choices: the values in the words, the width of 32 bits where none is given, and
-- whether `--stats` is among the words
abbrev pub analysis_given : GuestCommand → List Choice → Option Analysis
analysis_given running choices = option_map (run_given choices) (bits_of (given (codes "stamps") choices))
analysis_given tracing choices = Some Analysis.Trace
analysis_given caching choices =
    option_map Analysis.Cache (shape_said (given (codes "sets") choices) (given (codes "ways") choices) (given (codes "line") choices))
analysis_given telling_contexts choices = option_map Analysis.Contexts (bits_of (given (codes "stamps") choices))

-- The options of plain words are the values in the words, and the defaults of the numbers that are left out.
abbrev pub PlainOptionsAreRead : Type 0
PlainOptionsAreRead = (command : GuestCommand) (program : Text) (choices : List Choice) (image : Text) (words : List Text)
    → ArePlain choices image words → list_all (is_of command) choices ≡ true → list_any has_zero (guest_words command program choices image words) ≡ false
    → (output : Text) (turn_steps run_steps : ℕ) (analysis : Analysis) → given (codes "output") choices ≡ Some output
    → quantum_of (given (codes "quantum") choices) ≡ Some turn_steps
    → budget_of (given (codes "budget") choices) ≡ Some run_steps
    → analysis_given command choices ≡ Some analysis
    → asked_of (guest_words command program choices image words) ≡ Some (Asked.Guest (guest_given choices turn_steps run_steps image words) output analysis)

-- ---- `replay`
-- Plain words are taken, where each option is one of `replay` and the path of the report is among them.
abbrev pub PlainReplayIsTaken : Type 0
PlainReplayIsTaken = (program : Text) (choices : List Choice) (trace : Text) → ArePlain choices trace []
    → list_all is_of_replay choices ≡ true → is_chosen (codes "output") choices ≡ true → takes the_app (replay_words program choices trace) ≡ true

-- The options are the values in the words, the width of 32 bits where none is given, and whether `--stats` is among the words.
abbrev pub PlainReplayIsRead : Type 0
PlainReplayIsRead = (program : Text) (choices : List Choice) (trace : Text) → ArePlain choices trace []
    → list_all is_of_replay choices ≡ true → list_any has_zero (replay_words program choices trace) ≡ false
    → (report_path : Text) (width : StampBits) → given (codes "output") choices ≡ Some report_path
    → bits_of (given (codes "stamps") choices) ≡ Some width
    → asked_of (replay_words program choices trace) ≡ Some (Asked.Replay (record {
      trace = trace;
      report = report_path;
      bits = width;
      stats = is_chosen (codes "stats") choices;
    }))

-- ---- `demo`

-- the words of a whole command line: the program's name, `demo` and the number
abbrev pub demo_words : Text → Text → List Text
demo_words program number = program ∷ codes "demo" ∷ number ∷ []

-- `demo` and a plain word are taken.
abbrev pub PlainDemoIsTaken : Type 0
PlainDemoIsTaken = (program number : Text) → is_plain_word number ≡ true → takes the_app (demo_words program number) ≡ true

-- They ask for the demo of the number that the word says.
abbrev pub PlainDemoIsRead : Type 0
PlainDemoIsRead = (program text : Text) (number : ℕ) → is_plain_word text ≡ true → list_any has_zero (demo_words program text) ≡ false
    → demo_of text ≡ Some number → asked_of (demo_words program text) ≡ Some (Asked.Demo number)

-- ---- numbers out of their form or range

-- the steps of a turn or of the whole run are out of their form or range
abbrev pub GiveBadSteps : List Choice → Type 0
GiveBadSteps choices = (quantum_of (given (codes "quantum") choices) ≡ None) ⊎ (budget_of (given (codes "budget") choices) ≡ None)

-- stamps have no such width
abbrev pub GiveBadWidth : List Choice → Type 0
GiveBadWidth choices = bits_of (given (codes "stamps") choices) ≡ None

-- what the command has beside is out of its form or range, or the numbers of a cache make no shape
abbrev pub GiveBadNumber : GuestCommand → List Choice → Type 0
GiveBadNumber command choices = analysis_given command choices ≡ None

-- Plain words ask for nothing where a number is out of its form or range, or where the numbers of a cache make no shape.
pub record PlainNumbersAreRefused : Type 0 where
  pub guest : (command : GuestCommand) (program : Text) (choices : List Choice) (image : Text) (words : List Text)
      → ArePlain choices image words → list_all (is_of command) choices ≡ true → GiveBadSteps choices ⊎ GiveBadNumber command choices
      → asked_of (guest_words command program choices image words) ≡ None
  pub replay : (program : Text) (choices : List Choice) (trace : Text) → ArePlain choices trace []
      → list_all is_of_replay choices ≡ true → GiveBadWidth choices → asked_of (replay_words program choices trace) ≡ None
  pub demo : (program number : Text) → is_plain_word number ≡ true → demo_of number ≡ None → asked_of (demo_words program number) ≡ None
