-- Instructions that access no memory and link no way back.
use Rattle.std.proofs.Common.{◌≡◌, ℕ, ◌+◌, ◌%◌, ◌^◌, true, [], ◌∷◌, ◌++◌, Option, Some, IfSome, ap, refl, subst, sym}
use Rattle.guest_memory.specs.Code.{IsInstructionAt}
use Rattle.guest_memory.specs.Memory.{Memory}
use Rattle.rv_isa.specs.declared.instruction.Instr.{Instr}
use Rattle.rv_isa.specs.declared.instruction.Instr.TheVariants.{Lui, Auipc, Jal, Jalr, Branch, Load, Store, Immediate, Register, Atomic, Fence, FenceI, Ecall, Ebreak}
use Rattle.rv_exec.specs.Effects.{ExecState, effect}
use Rattle.rv_exec.specs.Reading.{is_plain}
use Rattle.rv_exec.specs.declared.outcome.Access.TheVariants as access
use Rattle.rv_exec.specs.declared.outcome.Outcome.TheVariants.{Went}
use Rattle.call_tracker.specs.Links.{kind_of}
use Rattle.call_tracker.specs.declared.jumps.JumpKind.{JumpKind}
use Rattle.call_tracker.specs.declared.jumps.JumpKind.TheVariants.{Nothing}
use Rattle.trace_model.specs.declared.event_kinds.Event.TheVariants.{Step}
use Rattle.guest_machine.specs.declared.stepped.Advanced.TheVariants.{Ran}
use Rattle.guest_machine.specs.Private.Carrying.{IsStepOf}
use Rattle.guest_machine.specs.Step.{access_events, jump_events}
use Rattle.guest_machine.proofs.Carried.{known_is, steps_to}

-- such an instruction is no call and no return
pub plain_quiet : (i : Instr) → is_plain i ≡ true → kind_of i ≡ Nothing
plain_quiet (Lui rd imm) h = refl
plain_quiet (Auipc rd imm) h = refl
plain_quiet (Jal rd offset) h = absurd (cc)
plain_quiet (Jalr rd base offset) h = absurd (cc)
plain_quiet (Branch test left right offset) h = refl
plain_quiet (Load kind rd base offset) h = absurd (cc)
plain_quiet (Store kind from base offset) h = absurd (cc)
plain_quiet (Immediate op rd left imm) h = refl
plain_quiet (Register op rd left right) h = refl
plain_quiet (Atomic op rd base from order) h = absurd (cc)
plain_quiet Fence h = refl
plain_quiet FenceI h = refl
plain_quiet Ecall h = absurd (cc)
plain_quiet Ebreak h = absurd (cc)

-- an instruction that is known of a word stands where the thread is
pub stands_at : (m : Memory) (at pc : ℕ) (known : Option Instr) (i : Instr) → pc ≡ at → known ≡ Some i → IfSome known (IsInstructionAt m at) → IsInstructionAt m pc i
stands_at m at pc known i same is found =
    subst (λ q. IsInstructionAt m q i) (sym same) (subst (λ (o : Option Instr). IfSome o (IsInstructionAt m at)) is found)

-- its step does nothing beside
pub step_plain : (here new : ExecState) (tid : ℕ) (i : Instr) → IsInstructionAt here.memory here.registers.pc i → (Went access.Nothing, new) ≡ effect tid i here
    → kind_of i ≡ Nothing → IsStepOf here new tid Ran
step_plain here new tid i known effects none m is =
    steps_to m tid here is i (known_is here.memory here.registers.pc i known) access.Nothing new effects (Step tid ∷ [])
    (sym (ap (λ (k : JumpKind). Step tid ∷ (access_events tid access.Nothing ++ jump_events k tid new.registers.pc ((here.registers.pc + 4) % 2 ^ 32))) none))
