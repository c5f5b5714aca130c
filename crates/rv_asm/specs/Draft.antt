-- A program that is being written: its lines so far, and the labels that it has made.
use Rattle.std.specs.Prelude.{◌≡◌, ℕ, ◌≤◌, List, [], ◌∷◌, ◌++◌, length, slice_set, All, Option, Some, None, IfSome}
use Rattle.rv_isa.specs.Encoding.{IsEncodable}
use Rattle.rv_asm.specs.declared.limits.TheConstants.{PROGRAM_LINES}
use Rattle.rv_asm.specs.declared.line.Line.{Line}

-- A draft: a line for each word of code, and for each label the word that it stands for, once it is bound.
pub record Draft : Type 0 where
  pub lines : List Line
  pub bindings : List (Option ℕ)

-- no code, and no label
abbrev pub empty_draft : Draft
empty_draft = record { lines = []; bindings = [] }

-- one more line
abbrev pub with_line : Draft → Line → Draft
with_line d line = record { lines = d.lines ++ line ∷ []; bindings = d.bindings }

-- one more label, which is not bound
abbrev pub with_label : Draft → Draft
with_label d = record { lines = d.lines; bindings = d.bindings ++ None ∷ [] }

-- the label stands for the next word
abbrev pub with_binding : Draft → ℕ → Draft
with_binding d label = record { lines = d.lines; bindings = slice_set d.bindings label (Some (length d.lines)) }

-- an instruction that needs no label has a word
abbrev pub IsWritable : Line → Type 0
IsWritable line = line.to ≡ None → IsEncodable line.instruction

-- a label that is bound stands for a word of the code or for its end
abbrev pub IsBinding : Option ℕ → Type 0
IsBinding binding = IfSome binding (λ at. at ≤ PROGRAM_LINES)

-- What every draft keeps.
pub record IsSoundDraft (d : Draft) : Type 0 where
  pub short : length d.lines ≤ PROGRAM_LINES
  pub few : length d.bindings ≤ PROGRAM_LINES
  pub writable : All IsWritable d.lines
  pub bound : All IsBinding d.bindings
