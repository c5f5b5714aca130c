-- Reading a report line by line: how far a text leads, and why it leads no further.
use Rattle.std.specs.Prelude.{◌≡◌, ◌≢◌, ◌⊎◌, ℕ, ◌+◌, Bool, true, false, ◌&&◌, List, [], ◌∷◌, ◌++◌, length, Option, Some, None, is_some, if◌then◌else◌}
use Rattle.std.specs.List.{flat_map, AllByRecursion}
use Rattle.profile_report.specs.declared.line.Line.{Line}
use Rattle.profile_report.specs.declared.line.Line.TheVariants.{OfRoutine}
use Rattle.profile_report.specs.declared.parse_state.ParseState.{ParseState}
use Rattle.profile_report.specs.declared.parse_state.ParseState.TheVariants.{AtVersion, AtRoutines, Over}
use Rattle.profile_report.specs.declared.reader.ReportError.{ReportError}
use Rattle.profile_report.specs.declared.reader.ReportError.TheVariants as errors
use Rattle.profile_report.specs.Grammar.{FitsLine, line_text, may_stand, rises, next}
use Rattle.profile_report.specs.LineForms.{ended, first_line}
use Rattle.profile_report.specs.declared.report.ReportVersion.{ReportVersion}
use Rattle.guest_words.specs.Separators.{lacks}

-- the text of lines, each with the byte that ends it
abbrev pub lines_text : List Line → List ℕ
lines_text lines = flat_map (λ l. ended (line_text l)) lines

-- where lines lead from a state, if each may come in its state and keeps the order
abbrev pub led : ParseState → List Line → Option ParseState
led state [] = Some state
led state (line ∷ lines) = if may_stand state line && rises state line then led (next state line) lines else None

-- The text begins with `count` lines, which lead to the state, and the rest stands behind them.
pub record Reaches (text : List ℕ) (count : ℕ) (state : ParseState) (rest : List ℕ) : Type 0 where
  pub lines : List Line
  pub fit : AllByRecursion FitsLine lines
  pub many : length lines ≡ count
  pub whole : text ≡ lines_text lines ++ rest
  pub lead : led AtVersion lines ≡ Some state

-- the bytes of a line say this, and nothing else
pub record Says (bytes : List ℕ) (line : Line) : Type 0 where
  pub fits : FitsLine line
  pub text : bytes ≡ line_text line
  pub alone : (other : Line) → FitsLine other → bytes ≡ line_text other → other ≡ line

-- the bytes of a line say what may not come in the state, or nothing
abbrev pub IsMisplaced : ParseState → List ℕ → Type 0
IsMisplaced state bytes = (line : Line) → FitsLine line → bytes ≡ line_text line → may_stand state line ≡ false

-- the bytes of a line say what may come in the state, and only break the order
abbrev pub IsUnordered : ParseState → List ℕ → Type 0
IsUnordered state bytes = (line : Line) × Says bytes line × (may_stand state line ≡ true) × (rises state line ≡ false)

-- the line has a name
abbrev pub HasName : Line → Type 0
HasName (OfRoutine entry (Some name)) = Unit {0}
HasName line = ⊥

-- a routine has begun
abbrev pub has_begun : ParseState → Bool
has_begun (AtRoutines r begun) = is_some begun
has_begun state = false

-- Memory is taken for a name, and behind a line that leads on, for the routine that has begun: it gets a point, or is whole.
abbrev pub TakesMemory : ParseState → Line → Type 0
TakesMemory state line = HasName line ⊎ ((may_stand state line ≡ true) × (rises state line ≡ true) × (has_begun state ≡ true))

-- why a whole line of this number is refused in the state
abbrev pub RefusesLine : ℕ → ParseState → List ℕ → ReportError → Type 0
RefusesLine number state bytes errors.Version = (state ≡ AtVersion) × ((v : ReportVersion) → bytes ≢ first_line v)
RefusesLine number state bytes (errors.Line n) = (n ≡ number) × (state ≢ AtVersion) × IsMisplaced state bytes
RefusesLine number state bytes (errors.Order n) = (n ≡ number) × IsUnordered state bytes
RefusesLine number state bytes errors.Short = ⊥
RefusesLine number state bytes errors.Memory = (line : Line) × Says bytes line × TakesMemory state line

-- the report is over
abbrev pub is_over : ParseState → Bool
is_over (Over r) = true
is_over state = false

-- why a rest is refused that has no whole line: the report isn't over, or bytes stand behind it; nothing is allocated
abbrev pub RefusesRest : ℕ → ParseState → List ℕ → ReportError → Type 0
RefusesRest number state rest errors.Short = is_over state ≡ false
RefusesRest number state rest (errors.Line n) = (n ≡ number) × (is_over state ≡ true) × (rest ≢ [])
RefusesRest number state rest error = ⊥

-- the rest begins with a whole line that is refused
abbrev pub HasRefusedLine : ℕ → ParseState → List ℕ → ReportError → Type 0
HasRefusedLine number state rest error = (bytes more : List ℕ) × (lacks 10 bytes ≡ true) × (rest ≡ bytes ++ 10 ∷ more) × RefusesLine number state bytes error

-- why a text is no report: what stands behind the lines that lead furthest is refused
abbrev pub IsReportRefused : List ℕ → ReportError → Type 0
IsReportRefused text error =
    (count : ℕ) × (state : ParseState) × (rest : List ℕ) × Reaches text count state rest
    × (HasRefusedLine (count + 1) state rest error ⊎ ((lacks 10 rest ≡ true) × RefusesRest (count + 1) state rest error))
