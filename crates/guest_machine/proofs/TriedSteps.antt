-- A load or a store of a word that is tried in the loop over known instructions.
use Rattle.std.proofs.Common.{◌≡◌, ℕ, ℤ, ◌+◌, ◌%◌, ◌^◌, ap, refl, sym, subst, ◌∙◌}
use Rattle.guest_memory.specs.Code.{IsInstructionAt}
use Rattle.guest_memory.specs.Guest.{memory_of}
use Rattle.guest_memory.specs.declared.memory.GuestMemory.{GuestMemory}
use Rattle.guest_memory.specs.declared.reservations.Reservations.{Reservations}
use Rattle.rv_isa.specs.declared.instruction.Instr.TheVariants.{Load, Store}
use Rattle.rv_isa.specs.declared.instruction.LoadKind.{LoadKind}
use Rattle.rv_isa.specs.declared.instruction.LoadKind.TheVariants.{Lw}
use Rattle.rv_isa.specs.declared.instruction.StoreKind.{StoreKind}
use Rattle.rv_isa.specs.declared.instruction.StoreKind.TheVariants.{Sw}
use Rattle.rv_exec.specs.Effects.{advanced, exec_state_of, loads, on_registers, stores, value}
use Rattle.rv_exec.specs.Operations.{add_offset}
use Rattle.rv_exec.specs.Registers.{Registers, with_pc}
use Rattle.rv_exec.specs.declared.outcome.Access.TheVariants as access
use Rattle.rv_exec.specs.declared.outcome.Outcome.TheVariants.{Went}
use Rattle.guest_machine.specs.declared.stepped.Advanced.TheVariants.{Accessed}
use Rattle.guest_machine.specs.Private.Carrying.{IsStepOf}
use Rattle.guest_machine.proofs.MadeSteps.{step_accessed}

-- the step of a load of a word
pub load_word_step : (tid rd at : ℕ) (memory : GuestMemory) (old new : Registers) (first : ℕ)
    → ((pc : ℕ) → (Went (access.Read first 1), with_pc ((pc + 4) % 2 ^ 32) new) ≡ loads Lw rd at (memory_of memory) (with_pc pc old))
    → (pc behind : ℕ) → behind ≡ (pc + 4) % 2 ^ 32 → (held : Reservations) (kind : LoadKind) (base : ℕ) (offset : ℤ) → kind ≡ Lw
    → IsInstructionAt (memory_of memory) pc (Load kind rd base offset) → at ≡ add_offset (value old base) offset
    → IsStepOf (exec_state_of (with_pc pc old) memory held) (exec_state_of (with_pc behind new) memory held) tid (Accessed (access.Read first 1))
load_word_step tid rd at memory old new first went pc behind passed held kind base offset is known at_is =
    let here = exec_state_of (with_pc pc old) memory held in
    subst (λ p. IsStepOf here (exec_state_of (with_pc p new) memory held) tid (Accessed (access.Read first 1))) (sym passed)
    (step_accessed here (exec_state_of (with_pc ((pc + 4) % 2 ^ 32) new) memory held) tid (Load Lw rd base offset) (access.Read first 1)
    (subst (λ (k : LoadKind). IsInstructionAt (memory_of memory) pc (Load k rd base offset)) is known)
    (ap (on_registers here) (went pc ∙ ap (λ a. loads Lw rd a (memory_of memory) (with_pc pc old)) at_is)) refl)

-- the step of a store of a word
pub store_word_step : (tid at n : ℕ) (memory memory' : GuestMemory) (held : Reservations) (first : ℕ)
    → ((r : Registers) (t : ℕ) → (Went (access.Write first 1), exec_state_of (advanced r) memory' held) ≡ stores t Sw at n (exec_state_of r memory held))
    → (r new : Registers) → new ≡ advanced r → (kind : StoreKind) (from base : ℕ) (offset : ℤ) → kind ≡ Sw
    → IsInstructionAt (memory_of memory) r.pc (Store kind from base offset) → at ≡ add_offset (value r base) offset → n ≡ value r from
    → IsStepOf (exec_state_of r memory held) (exec_state_of new memory' held) tid (Accessed (access.Write first 1))
store_word_step tid at n memory memory' held first went r new passed kind from base offset is known at_is n_is =
    let here = exec_state_of r memory held in
    subst (λ (s : Registers). IsStepOf here (exec_state_of s memory' held) tid (Accessed (access.Write first 1))) (sym passed)
    (step_accessed here (exec_state_of (advanced r) memory' held) tid (Store Sw from base offset) (access.Write first 1)
    (subst (λ (k : StoreKind). IsInstructionAt (memory_of memory) r.pc (Store k from base offset)) is known)
    (went r tid ∙ ap (λ a. stores tid Sw a n here) at_is ∙ ap (λ k. stores tid Sw (add_offset (value r base) offset) k here) n_is) refl)
