-- What the lines of a draft stand for, once all labels are bound.
use Rattle.std.specs.Prelude.{◌≡◌, ℕ, ◌*◌, ◌<◌, ◌^◌, ℤ, pos, ◌-ℤ◌, List, length, slice_index, slice_index_or, Option, Some, None, unwrap_or}
use Rattle.rv_isa.specs.declared.instruction.Instr.{Instr}
use Rattle.rv_isa.specs.declared.instruction.Instr.TheVariants.{Fence, FenceI}
use Rattle.std.specs.Option.{option_map_or}
use Rattle.rv_isa.specs.Table.{decoded}
use Rattle.rv_asm.specs.declared.line.Line.{Line}
use Rattle.rv_asm.specs.Draft.{Draft}
use Rattle.rv_asm.specs.Lines.{with_offset}

-- the word that a label stands for, once it is bound
abbrev pub binding_of : List (Option ℕ) → ℕ → Option ℕ
binding_of bindings label = slice_index_or bindings label None

-- how many bytes lie from one word to another
abbrev pub offset_between : ℕ → ℕ → ℤ
offset_between from to = pos (4 * to) -ℤ pos (4 * from)

-- the offset from a word to a label, which is to be bound
abbrev pub label_offset : List (Option ℕ) → ℕ → ℕ → ℤ
label_offset bindings at label = offset_between at (unwrap_or (binding_of bindings label) 0)

-- the instruction of the line at a word: with the offset of its label, if it has one
abbrev pub instruction_at : List (Option ℕ) → ℕ → Line → Instr
instruction_at bindings at line =
    option_map_or (λ label. with_offset line.instruction (label_offset bindings at label)) line.to line.instruction

-- A word of 32 bits is the one that is written for an instruction: it stands for it, and those of the fences are these of
-- several.
pub record IsWordOf (instruction : Instr) (word : ℕ) : Type 0 where
  pub fits : word < 2 ^ 32
  pub decoded : decoded word ≡ Some instruction
  pub fence : instruction ≡ Fence → word ≡ 0x0FF0000F
  pub fence_i : instruction ≡ FenceI → word ≡ 0x0000100F

-- The words are those of the lines, one for each.
pub record AreAssembled (d : Draft) (words : List ℕ) : Type 0 where
  pub count : length words ≡ length d.lines
  pub each : (at : ℕ) → at < length d.lines → (line : Line)
      → IsWordOf (instruction_at d.bindings at (slice_index_or d.lines at line)) (slice_index words at)
