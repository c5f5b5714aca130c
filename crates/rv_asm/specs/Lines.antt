-- Lines of a program: instructions, and jumps whose offset is that of a label.
use Rattle.std.specs.Prelude.{ℤ, Bool, true, false}
use Rattle.rv_isa.specs.declared.instruction.Instr.{Instr}
use Rattle.rv_isa.specs.declared.instruction.Instr.TheVariants.{Jal, Branch}

-- JAL and the branches jump by an offset
abbrev pub is_jump : Instr → Bool
is_jump (Jal rd offset) = true
is_jump (Branch test left right offset) = true
is_jump _ = false

-- a jump with another offset; no other instruction has one
abbrev pub with_offset : Instr → ℤ → Instr
with_offset (Jal rd offset) other = Jal rd other
with_offset (Branch test left right offset) other = Branch test left right other
with_offset instruction other = instruction
