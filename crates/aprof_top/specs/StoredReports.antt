-- What a command stores as its report: the text of a valid one.
use Rattle.std.specs.Prelude.{◌≡◌, List, [], ◌∷◌, ◌++◌, ℕ, Option, IfSome}
use Rattle.command_line.specs.Options.{Asked, AsksFor}
use Rattle.command_line.specs.Options.Analysis.{Run, Contexts}
use Rattle.command_line.specs.Options.Asked.{Guest, Replay}
use Rattle.profile_report.specs.Reported.{Reported}
use Rattle.profile_report.specs.ReportText.{report_text}
use Rattle.profile_report.specs.Valid.{IsValid}
use Rattle.aprof_top.specs.declared.ending.Verdict.{Verdict}
use Rattle.aprof_top.specs.declared.ending.Verdict.TheVariants.{Ran, Done}
use Rattle.aprof_top.specs.Found.{Decision}
use Rattle.aprof_top.specs.Outcome.{IsOutcome, Outcome}
use Rattle.aprof_top.specs.Outside.{Outside}

-- the bytes are the text of a valid report
abbrev pub IsReport : List ℕ → Type 0
IsReport bytes = (report : Reported) × IsValid report × (bytes ≡ report_text report)

-- they begin with such a text
abbrev pub BeginsAsReport : List ℕ → Type 0
BeginsAsReport bytes = (report more : List ℕ) × IsReport report × (bytes ≡ report ++ more)

-- The last of these stores is at the path, and its bytes are so.
pub record StoresLast (path : List ℕ) (Is : List ℕ → Type 0) (stores : List (List ℕ × List ℕ)) : Type 0 where
  pub earlier : List (List ℕ × List ℕ)
  pub bytes : List ℕ
  pub last : stores ≡ earlier ++ (path, bytes) ∷ []
  pub is : Is bytes

-- the report of what is asked is among these stores, as the last, and is valid; other commands store none
abbrev pub StoresReport : List (List ℕ × List ℕ) → Asked → Type 0
StoresReport stores (Guest guest path (Run options)) = StoresLast path IsReport stores
StoresReport stores (Guest guest path (Contexts bits)) = StoresLast path BeginsAsReport stores
StoresReport stores (Replay options) = StoresLast options.report IsReport stores
StoresReport stores asked = Unit {0}

-- the run or the trace came to its end, and its result is not too large
abbrev pub HasResult : Verdict → Type 0
HasResult (Ran finish) = Unit {0}
HasResult Done = Unit {0}
HasResult verdict = ⊥

-- An outcome with a result stores a valid report.
abbrev pub HasValidReport : Option Asked → Outcome → Type 0
HasValidReport asked outcome = HasResult outcome.verdict → IfSome asked (StoresReport outcome.stores)

-- So does each outcome of what words ask for.
abbrev pub StoredReportsAreValid : Type 0
StoredReportsAreValid =
    (words : List (List ℕ)) (asked : Option Asked) (files : List (List ℕ)) (outcome : Outcome)
    → AsksFor words asked → IsOutcome asked files outcome → HasValidReport asked outcome

-- So does each outcome that the words and what a call finds outside decide.
abbrev pub ReportsAreValid : List (List ℕ) → Outside → Outside → Type 0
ReportsAreValid words before after = (decision : Decision words before.files after.files) → HasValidReport decision.found.asked decision.outcome
