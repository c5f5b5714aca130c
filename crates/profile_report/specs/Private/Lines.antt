-- Lines of a report, as they are read: where one leads, and which have no name.
use Rattle.std.specs.Prelude.{◌≡◌, ℕ, true, List}
use Rattle.profile_report.specs.declared.line.Line.{Line}
use Rattle.profile_report.specs.declared.parse_state.ParseState.{ParseState}
use Rattle.profile_report.specs.Grammar.{may_stand, rises, next}
use Rattle.profile_report.specs.Reading.{Says}
use Rattle.profile_report.specs.declared.line.Line.TheVariants.{OfRoutine}

-- a line that has no name
abbrev pub IsPlain : Line → Type 0
IsPlain (OfRoutine entry name) = ⊥
IsPlain line = Unit {0}

-- the line leads from a state to the next
abbrev pub Leads : ParseState → List ℕ → ParseState → Type 0
Leads state bytes after = (line : Line) × Says bytes line × (may_stand state line ≡ true) × (rises state line ≡ true) × (after ≡ next state line)
