-- Why a draft is not assembled.
use Rattle.std.specs.Prelude.{◌≡◌, ℕ, ◌<◌, List, [], ◌∷◌, length, slice_index_or, Option, Some, None, is_some, IsSome, if◌then◌else◌, Bool, true}
use Rattle.std.specs.Option.{option_map_or}
use Rattle.rv_isa.specs.Encoding.{IsEncodable}
use Rattle.rv_asm.specs.declared.error.AsmError.{AsmError}
use Rattle.rv_asm.specs.declared.error.AsmError.TheVariants.{Unbound, Twice, Reach, Unencodable, Memory}
use Rattle.rv_asm.specs.declared.line.Line.{Line}
use Rattle.rv_asm.specs.Draft.{Draft}
use Rattle.rv_asm.specs.Assembled.{instruction_at, binding_of}

-- whether a line needs no label, or one that is bound
abbrev pub is_ready : List (Option ℕ) → Option ℕ → Bool
is_ready bindings to = option_map_or (λ label. is_some (binding_of bindings label)) to true

-- the label of the first jump whose label is not bound
abbrev pub first_unbound : List (Option ℕ) → List Line → Option ℕ
first_unbound bindings [] = None
first_unbound bindings (line ∷ rest) = if is_ready bindings line.to then first_unbound bindings rest else line.to

-- the line at a word is an instruction without a label, or a jump whose offset is in its form's range
abbrev pub IsInReach : List (Option ℕ) → ℕ → Line → Type 0
IsInReach bindings at line = IsSome line.to → IsEncodable (instruction_at bindings at line)

-- all lines before a word are in reach
abbrev pub AreInReach : Draft → ℕ → Type 0
AreInReach d end = (at : ℕ) → at < end → (line : Line) → IsInReach d.bindings at (slice_index_or d.lines at line)

-- The word is the first that is out of reach.
pub record IsFirstOut (d : Draft) (at : ℕ) : Type 0 where
  pub inside : at < length d.lines
  pub before : AreInReach d at
  pub out : (line : Line) → IsInReach d.bindings at (slice_index_or d.lines at line) → ⊥

-- A draft that is assembled: each label of a jump is bound, and each jump is in reach.
pub record IsAccepted (d : Draft) : Type 0 where
  pub bound : first_unbound d.bindings d.lines ≡ None
  pub reach : AreInReach d (length d.lines)

-- What the refusals of a draft say of it. Out of memory may come at any draft.
abbrev pub IsDraftRefused : Draft → AsmError → Type 0
IsDraftRefused d (Unbound label) = first_unbound d.bindings d.lines ≡ Some label
IsDraftRefused d (Reach at) = (first_unbound d.bindings d.lines ≡ None) × IsFirstOut d at
IsDraftRefused d Memory = Unit {0}
IsDraftRefused d (Twice label) = ⊥
IsDraftRefused d (Unencodable at) = ⊥
