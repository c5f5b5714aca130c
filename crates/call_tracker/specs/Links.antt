-- Calls and returns by the link registers: the hints for a return-address stack in the RISC-V unprivileged ISA
-- manual, "Unconditional Jumps".
use Rattle.std.specs.Prelude.{ℕ, Bool, true, false, ◌||◌, ◌==◌, if◌then◌else◌}
use Rattle.rv_isa.specs.declared.instruction.Instr.{Instr}
use Rattle.rv_isa.specs.declared.instruction.Instr.TheVariants.{Jal, Jalr}
use Rattle.call_tracker.specs.declared.jumps.JumpKind.{JumpKind}
use Rattle.call_tracker.specs.declared.jumps.JumpKind.TheVariants.{Nothing, Push, Pop, PopPush}

-- the link registers are x1 and x5
abbrev pub is_link : ℕ → Bool
is_link register = (register == 1) || (register == 5)

-- the table of JALR: rd is a link, rs1 is a link, they are one register
abbrev pub jalr_row : Bool → Bool → Bool → JumpKind
jalr_row false false same = Nothing
jalr_row false true same = Pop
jalr_row true false same = Push
jalr_row true true false = PopPush
jalr_row true true true = Push

abbrev pub jalr_kind : ℕ → ℕ → JumpKind
jalr_kind rd rs1 = jalr_row (is_link rd) (is_link rs1) (rd == rs1)

-- JAL to a link register is a call, JALR goes by its table, and no other instruction calls or returns
abbrev pub kind_of : Instr → JumpKind
kind_of (Jal rd offset) = if is_link rd then Push else Nothing
kind_of (Jalr rd base offset) = jalr_kind rd base
kind_of _ = Nothing
