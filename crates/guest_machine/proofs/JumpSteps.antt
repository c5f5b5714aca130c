-- Jumps that leave the way back in a register.
use Rattle.std.proofs.Common.{◌≡◌, ℕ, ℤ, ◌+◌, ◌*◌, ◌/◌, ◌%◌, ◌^◌, Bool, true, false, List, [], ◌∷◌, ◌++◌, ap, refl, sym, ◌∙◌}
use Rattle.std.specs.Prelude.{nat_eq}
use Rattle.guest_memory.specs.Code.{IsInstructionAt}
use Rattle.guest_memory.specs.Guest.{memory_of}
use Rattle.guest_memory.specs.declared.memory.GuestMemory.{GuestMemory}
use Rattle.guest_memory.specs.declared.reservations.Reservations.{Reservations}
use Rattle.guest_words.specs.declared.endings.FaultKind.TheVariants as fault
use Rattle.rv_isa.specs.declared.instruction.Instr.{Instr}
use Rattle.rv_isa.specs.declared.instruction.Instr.TheVariants.{Jal, Jalr}
use Rattle.rv_exec.specs.Effects.{ExecState, checked, effect, exec_state_of, linked, on_registers, value}
use Rattle.rv_exec.specs.Operations.{add_offset}
use Rattle.rv_exec.specs.Registers.{Registers, with_pc}
use Rattle.rv_exec.specs.declared.outcome.Access.{Access}
use Rattle.rv_exec.specs.declared.outcome.Access.TheVariants as access
use Rattle.rv_exec.specs.declared.outcome.Outcome.{Outcome}
use Rattle.rv_exec.specs.declared.outcome.Outcome.TheVariants.{Fault, Went}
use Rattle.call_tracker.specs.Links.{kind_of}
use Rattle.call_tracker.specs.declared.jumps.JumpKind.{JumpKind}
use Rattle.call_tracker.specs.declared.jumps.JumpKind.TheVariants.{Nothing}
use Rattle.trace_model.specs.declared.event_kinds.Event.TheVariants.{Step}
use Rattle.guest_machine.specs.declared.stepped.Advanced.TheVariants.{Jumped, Ran}
use Rattle.guest_machine.specs.Private.Carrying.{IsStepOf, JumpsTo}
use Rattle.guest_machine.specs.Step.{access_events, jump_events}
use Rattle.guest_machine.proofs.Carried.{known_is, state_kept, steps_to}

access_of : Outcome → Access
access_of (Went accessed) = accessed
access_of other = access.Nothing

-- a jump that went accessed nothing, and leads to its target
went_by : (b : Bool) (target : ℕ) (regs : List ℕ) (r new : Registers) (accessed : Access)
    → (Went accessed, new) ≡ checked b fault.JumpAlign r (λ _. (Went access.Nothing, record { pc = target; regs = regs }))
    → (accessed ≡ access.Nothing) × (new.pc ≡ target)
unfolding access_of
went_by true target regs r new accessed h = (ap (λ e. access_of e.0) h, ap (λ e. e.1.pc) h)
went_by false target regs r new accessed h = absurd (let no : Went accessed ≡ Fault fault.JumpAlign = ap (λ e. e.0) h in cc)

-- the two instructions that do
pub jal_jumps : (r : Registers) (rd target : ℕ) (offset : ℤ) (jump : JumpKind) → target ≡ add_offset r.pc offset → jump ≡ kind_of (Jal rd offset)
    → JumpsTo (Jal rd offset) r rd target jump
jal_jumps r rd target offset jump at kind = record {
  does = λ tid c same. ap (λ t. on_registers c (linked rd t c.registers)) (ap (λ (s : Registers). add_offset s.pc offset) same ∙ sym at);
  kind = sym kind;
}

pub jalr_jumps : (r : Registers) (rd base target : ℕ) (offset : ℤ) (jump : JumpKind) → target ≡ add_offset (value r base) offset / 2 * 2
    → jump ≡ kind_of (Jalr rd base offset) → JumpsTo (Jalr rd base offset) r rd target jump
jalr_jumps r rd base target offset jump at kind = record {
  does = λ tid c same. ap (λ t. on_registers c (linked rd t c.registers)) (ap (λ (s : Registers). add_offset (value s base) offset / 2 * 2) same ∙ sym at);
  kind = sym kind;
}

module _ (tid pc : ℕ) (cpu : Registers) (new_pc : ℕ) (new_cpu : Registers) (memory : GuestMemory) (held : Reservations) (i : Instr) (rd target : ℕ) (jump : JumpKind)
    (known : IsInstructionAt (memory_of memory) pc i) (jumps : JumpsTo i (with_pc pc cpu) rd target jump) where
  abbrev here : ExecState
  here = exec_state_of (with_pc pc cpu) memory held

  abbrev new : ExecState
  new = exec_state_of (with_pc new_pc new_cpu) memory held

  module _ (accessed : Access) (went : (Went accessed, with_pc new_pc new_cpu) ≡ linked rd target (with_pc pc cpu)) where
    effects : (Went accessed, new) ≡ effect tid i here
    effects = ap (on_registers here) went ∙ sym (jumps.does tid here refl)

    at : (accessed ≡ access.Nothing) × (new_pc ≡ target)
    at = went_by (nat_eq (target % 4) 0) target _ (with_pc pc cpu) (with_pc new_pc new_cpu) accessed went

    -- a call, a return, or both
    pub jump_step : (back : ℕ) → back ≡ (pc + 4) % 2 ^ 32 → IsStepOf here new tid (Jumped jump target back)
    jump_step back is m of =
        steps_to m tid here of i (known_is here.memory here.registers.pc i known) accessed new effects (Step tid ∷ jump_events jump tid target back)
        (ap (λ n. Step tid ∷ jump_events jump tid target n) is
        ∙ ap (λ n. Step tid ∷ jump_events jump tid n ((pc + 4) % 2 ^ 32)) (sym at.1)
        ∙ ap (λ (k : JumpKind). Step tid ∷ jump_events k tid new_pc ((pc + 4) % 2 ^ 32)) (sym jumps.kind)
        ∙ ap (λ (a : Access). Step tid ∷ (access_events tid a ++ jump_events (kind_of i) tid new_pc ((pc + 4) % 2 ^ 32))) (sym at.0))

    -- or neither
    pub link_step : jump ≡ Nothing → IsStepOf here new tid Ran
    link_step none m of =
        steps_to m tid here of i (known_is here.memory here.registers.pc i known) accessed new effects (Step tid ∷ [])
        (ap (λ (k : JumpKind). Step tid ∷ jump_events k tid new_pc ((pc + 4) % 2 ^ 32)) (sym none ∙ sym jumps.kind)
        ∙ ap (λ (a : Access). Step tid ∷ (access_events tid a ++ jump_events (kind_of i) tid new_pc ((pc + 4) % 2 ^ 32))) (sym at.0))

  -- one that faults changes nothing
  pub jump_kept : (o : Outcome) → (o, with_pc new_pc new_cpu) ≡ linked rd target (with_pc pc cpu) → ((accessed : Access) → o ≡ Went accessed → ⊥) → new ≡ here
  jump_kept o does stays = state_kept tid i here new o (ap (on_registers here) does ∙ sym (jumps.does tid here refl)) stays
