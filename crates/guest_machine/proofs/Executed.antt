-- What an instruction leaves of a machine.
use Rattle.std.proofs.Common.{◌≡◌, ℕ, ◌%◌, List, ◌++◌, true, false, ap, sym, refl, ◌∙◌, subst, inl, inr, Ok, cond}
use Rattle.std.specs.Prelude.{is_some, None}
use Rattle.std.proofs.lemmas.Bool.{cases_eq}
use Rattle.std.proofs.lemmas.List.{append-nil}
use Rattle.trace_model.specs.declared.event_kinds.Event.{Event}
use Rattle.guest_words.specs.declared.endings.FaultKind.{FaultKind}
use Rattle.rv_isa.specs.declared.instruction.Instr.{Instr}
use Rattle.rv_isa.specs.declared.instruction.Instr.TheVariants.{Ecall}
use Rattle.rv_exec.specs.Effects.{ExecState, effect}
use Rattle.rv_exec.specs.declared.outcome.Access.{Access}
use Rattle.rv_exec.specs.declared.outcome.Outcome.{Outcome}
use Rattle.rv_exec.specs.declared.outcome.Outcome.TheVariants.{Went, Syscall, Fault}
use Rattle.rv_exec.specs.Laws.{KeepsUnlessWent}
use Rattle.rv_exec.proofs.CallerLemmas.{effect_aligned, effect_calls, effect_kept, effect_others, effect_rights}
use Rattle.guest_kernel.specs.Kernel.{lives}
use Rattle.guest_kernel.proofs.Times.{later_is_state}
use Rattle.guest_machine.specs.Machine.{Hart, MachineState, can_run, later, with_registers}
use Rattle.guest_calls.specs.Lawful.{HoldersLive}
use Rattle.guest_machine.specs.Sound.{IsSoundMachine}
use Rattle.guest_machine.specs.Kept.{Parts, Steps, machine_of}
use Rattle.guest_machine.specs.declared.stepped.Stepped.TheVariants as stepped
use Rattle.guest_machine.specs.Step.{StepResult, pc_of, after_effect, exec_state_of, executed, faulted, went, with_exec_state}
use Rattle.guest_machine.proofs.Registers.{aligned-with_registers, pc_aligned, same_harts, tids-with_registers}
use Rattle.guest_words.specs.ByThread.{value_of}
use Rattle.guest_machine.proofs.Holders.{can_run-lives}

-- the step, by what became of the instruction
pub executed-went : (m : MachineState) (tid : ℕ) (i : Instr) (accessed : Access) (c : ExecState) → (Went accessed, c) ≡ effect tid i (exec_state_of m tid) → executed m tid (Ok i) ≡ went (later m) tid i accessed c
executed-went m tid i accessed c e = ap (after_effect m tid i) (sym e)

pub executed-fault : (m : MachineState) (tid : ℕ) (i : Instr) (kind : FaultKind) (c : ExecState) → (Fault kind, c) ≡ effect tid i (exec_state_of m tid) → executed m tid (Ok i) ≡ faulted m tid kind
executed-fault m tid i kind c e = ap (after_effect m tid i) (sym e)

-- it is no system call
pub executed-no_call : (m : MachineState) (tid : ℕ) (i : Instr) (c : ExecState) → (Syscall, c) ≡ effect tid i (exec_state_of m tid) → (i ≡ Ecall → ⊥) → ⊥
executed-no_call m tid i c e other = other ((effect_calls tid i (exec_state_of m tid)).0 (ap (λ p. p.0) (sym e)))

-- a fault leaves all as it was
pub fault-state : (m : MachineState) (tid : ℕ) (i : Instr) (kind : FaultKind) (c : ExecState) → (Fault kind, c) ≡ effect tid i (exec_state_of m tid) → c ≡ exec_state_of m tid
fault-state m tid i kind c e = subst (λ (p : Outcome × ExecState). KeepsUnlessWent p.0 (exec_state_of m tid) p.1) (sym e) (effect_kept tid i (exec_state_of m tid))

holders_by : (m : MachineState) (tid : ℕ) (i : Instr) (answer : Outcome) (c : ExecState) → (answer, c) ≡ effect tid i (exec_state_of m tid) → HoldersLive m.held m.kernel → lives m.kernel tid ≡ true → HoldersLive c.held m.kernel
holders_by m tid i answer c e holders live q some = elim (cases_eq q tid) [
  | inl same ↦ ap (lives m.kernel) same ∙ live
  | inr differs ↦
      let is : (effect tid i (exec_state_of m tid)).1.held q ≡ c.held q = ap (λ p. p.1.held q) (sym e) in
      let had : is_some ((effect tid i (exec_state_of m tid)).1.held q) ≡ true = ap (λ o. is_some o) is ∙ some in
      holders q (ap (λ o. is_some o) (sym (effect_others tid i (exec_state_of m tid) q differs had)) ∙ had)
]

-- the machine is sound afterwards
pub sound-state : (m : MachineState) (tid : ℕ) (i : Instr) (answer : Outcome) (c : ExecState) → (answer, c) ≡ effect tid i (exec_state_of m tid) → IsSoundMachine m → can_run m tid ≡ true → IsSoundMachine (with_exec_state (later m) tid c)
sound-state m tid i answer c e sound can = record {
  same_threads = tids-with_registers m.harts tid c.registers ∙ sound.same_threads;
  aligned = aligned-with_registers m.harts tid c.registers sound.aligned (subst (λ (after : ExecState). after.registers.pc % 4 ≡ 0) (ap (λ p. p.1) (sym e)) (effect_aligned tid i (exec_state_of m tid) (pc_aligned m.harts tid sound.aligned)));
  state = later_is_state m.kernel sound.state;
  holders = holders_by m tid i answer c e sound.holders (can_run-lives m tid can);
  break_free = λ q low high. ap (λ (rights : _). rights q) (ap (λ p. p.1.memory.rights) e ∙ effect_rights tid i (exec_state_of m tid)) ∙ sound.break_free q low high;
}

-- the code of a step gives what the step is
pub Steps-went : (p p2 : Parts) (tid : ℕ) (i : Instr) (accessed : Access) (c : ExecState) (old new : List Event) → (Went accessed, c) ≡ effect tid i (exec_state_of (machine_of p) tid) → machine_of p2 ≡ with_exec_state (later (machine_of p)) tid c → p2.called ≡ false → new ≡ old ++ (went (later (machine_of p)) tid i accessed c).events → Steps (executed (machine_of p) tid (Ok i)) stepped.Went p2 old new
Steps-went p p2 tid i accessed c old new e machine quiet events =
    subst (λ (r : StepResult). Steps r stepped.Went p2 old new) (sym (executed-went (machine_of p) tid i accessed c e)) (record { went = refl; machine = machine; out = ap (λ called. cond called p2.kernel.outgoing None) quiet; events = events })

pub Steps-faulted : (p p2 : Parts) (tid : ℕ) (kind : FaultKind) (at : ℕ) (r : StepResult) (old : List Event) → r ≡ faulted (machine_of p) tid kind → at ≡ pc_of (machine_of p) tid → machine_of p2 ≡ machine_of p → p2.called ≡ false → Steps r (stepped.Faulted kind at) p2 old old
Steps-faulted p p2 tid kind at r old is place machine quiet =
    subst (λ (s : StepResult). Steps s (stepped.Faulted kind at) p2 old old) (sym is) (record { went = ap (stepped.Faulted kind) place; machine = machine; out = ap (λ called. cond called p2.kernel.outgoing None) quiet; events = sym (append-nil old) })

-- registers, memory and reservations as they were leave the machine as it was
pub unchanged : (m : MachineState) (tid : ℕ) (c : ExecState) (harts : List Hart) → is_some (value_of m.harts tid) ≡ true → harts ≡ with_registers m.harts tid c.registers → c ≡ exec_state_of m tid → record m { harts = harts; memory = c.memory; held = c.held } ≡ m
unchanged m tid c harts lives changed same =
    ap (λ hs. record m { harts = hs; memory = c.memory; held = c.held }) (changed ∙ ap (λ (d : ExecState). with_registers m.harts tid d.registers) same ∙ same_harts m.harts tid lives)
    ∙ ap (λ (d : ExecState). record m { memory = d.memory; held = d.held }) same
