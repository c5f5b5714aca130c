-- A thread that went on by its step can run.
use Rattle.std.proofs.Common.{◌≡◌, ℕ, true, Ok, Err, refl}
use Rattle.std.specs.Prelude.{Result}
use Rattle.guest_words.specs.declared.endings.FaultKind.{FaultKind}
use Rattle.rv_isa.specs.declared.instruction.Instr.{Instr}
use Rattle.rv_exec.specs.Effects.{ExecState, effect}
use Rattle.rv_exec.specs.declared.outcome.Outcome.{Outcome}
use Rattle.rv_exec.specs.declared.outcome.Outcome.TheVariants as outcome
use Rattle.guest_kernel.specs.declared.answer.Answer.{Answer}
use Rattle.guest_kernel.specs.declared.answer.Answer.TheVariants.{Back, Born}
use Rattle.guest_calls.specs.Lawful.{goes_on}
use Rattle.guest_calls.specs.Table.{syscall}
use Rattle.guest_calls.proofs.AllCalls.{every_syscall_is_lawful}
use Rattle.guest_machine.specs.declared.stepped.Stepped.TheVariants.{Went}
use Rattle.guest_machine.specs.Machine.{MachineState, can_run, later}
use Rattle.guest_machine.specs.Step.{after_effect, syscall_of, exec_state_of, executed, next_instruction, step, stepped_by}

-- the turn goes on by these answers alone
went_goes_on : (answer : Answer) → stepped_by answer ≡ Went → goes_on answer ≡ true
went_goes_on (Back value) went = refl
went_goes_on (Born child registers) went = refl
went_goes_on _ went = absurd (cc)

effect_able : (m : MachineState) (tid : ℕ) (i : Instr) (given : Outcome × ExecState) → can_run m tid ≡ true →
    (after_effect m tid i given).outcome ≡ Went → can_run (after_effect m tid i given).machine tid ≡ true
effect_able m tid i (outcome.Went accessed, c) can goes = can
effect_able m tid i (outcome.Fault kind, c) can goes = absurd (cc)
effect_able m tid i (outcome.Syscall, c) can goes =
    let made = syscall_of (later m) tid in
    (every_syscall_is_lawful made).able can (went_goes_on (syscall made).answer goes)

executed_able : (m : MachineState) (tid : ℕ) (found : Result Instr FaultKind) → can_run m tid ≡ true →
    (executed m tid found).outcome ≡ Went → can_run (executed m tid found).machine tid ≡ true
executed_able m tid (Ok i) can goes = effect_able m tid i (effect tid i (exec_state_of m tid)) can goes
executed_able m tid (Err kind) can goes = absurd (cc)

pub step_able : (m : MachineState) (tid : ℕ) → can_run m tid ≡ true → (step m tid).outcome ≡ Went →
    can_run (step m tid).machine tid ≡ true
unfolding step
step_able m tid can goes = executed_able m tid (next_instruction m tid) can goes
