-- Words that are taken, and still ask for nothing.
use Rattle.std.specs.Prelude.{◌≡◌, ◌⊎◌, true, false, List, Option, Some, None, codes}
use Rattle.std.specs.List.{list_any}
use Rattle.clap.specs.Words.{Row, Text, first_of, subcommand_of, takes}
use Rattle.command_line.specs.App.{the_app}
use Rattle.command_line.specs.Plain.{GuestCommand, caching, name_of, running, telling_contexts, tracing}
use Rattle.command_line.specs.Options.{asked_of, bits_of, budget_of, demo_of, has_zero, quantum_of, shape_said}

-- a number of a guest is out of its form or range
abbrev pub HasBadSteps : List Row → Type 0
HasBadSteps rows = (quantum_of (first_of (codes "quantum") rows) ≡ None) ⊎ (budget_of (first_of (codes "budget") rows) ≡ None)

-- the text for the width of stamps is not one of the widths
abbrev pub HasBadWidth : List Row → Type 0
HasBadWidth rows = bits_of (first_of (codes "stamps") rows) ≡ None

-- the numbers of a cache are there, and one is out of its form or range, or they make no shape
abbrev pub HasNoShape : List Row → Type 0
HasNoShape rows = (sets : Text) × (ways : Text) × (line : Text) × (first_of (codes "sets") rows ≡ Some sets) × (first_of (codes "ways") rows ≡ Some ways)
    × (first_of (codes "line") rows ≡ Some line) × (shape_said (Some sets) (Some ways) (Some line) ≡ None)

-- a number that the command has beside is so
abbrev pub HasBadNumber : GuestCommand → List Row → Type 0
HasBadNumber running rows = HasBadWidth rows
HasBadNumber tracing rows = ⊥
HasBadNumber caching rows = HasNoShape rows
HasBadNumber telling_contexts rows = HasBadWidth rows

-- the number of `demo` is there, and out of its form or range
abbrev pub HasBadDemo : List Row → Type 0
HasBadDemo rows = (number : Text) × (first_of (codes "number") rows ≡ Some number) × (demo_of number ≡ None)

-- the subcommand of this name was found, with rows that are so
abbrev pub IsFound : Option (Text × List Row) → Text → (List Row → Type 0) → Type 0
IsFound found name Has = (rows : List Row) × (found ≡ Some (name, rows)) × Has rows

-- a subcommand was found that has a bad number
abbrev pub FailsByNumber : Option (Text × List Row) → Type 0
FailsByNumber found =
    ((command : GuestCommand) × IsFound found (name_of command) (λ rows. HasBadSteps rows ⊎ HasBadNumber command rows))
    ⊎ (IsFound found (codes "replay") HasBadWidth ⊎ IsFound found (codes "demo") HasBadDemo)

-- Words that are taken and have no zero byte are refused only for a number: the subcommand is there, with what it needs.
abbrev pub TakenWordsFailByNumbers : Type 0
TakenWordsFailByNumbers = (words : List Text) → takes the_app words ≡ true → list_any has_zero words ≡ false → asked_of words ≡ None
    → FailsByNumber (subcommand_of the_app words)
