-- How many threads live after a step, and which numbers they have.
use Rattle.std.proofs.Common.{◌≡◌, ℕ, ◌+◌, ◌≤◌, List, [], ◌∷◌, ◌++◌, length, length-append, ap, sym, ◌∙◌, arith, Ok, Err}
use Rattle.std.specs.Prelude.{Result}
use Rattle.std.proofs.lemmas.List.{length-map}
use Rattle.guest_words.specs.declared.limits.TheConstants.{LAST_TID, THREADS}
use Rattle.guest_words.specs.declared.endings.FaultKind.{FaultKind}
use Rattle.rv_isa.specs.declared.instruction.Instr.{Instr}
use Rattle.rv_exec.specs.Effects.{ExecState, effect}
use Rattle.rv_exec.specs.Registers.{Registers}
use Rattle.rv_exec.specs.declared.outcome.Outcome.{Outcome}
use Rattle.rv_exec.specs.declared.outcome.Outcome.TheVariants as outcome
use Rattle.guest_kernel.specs.declared.answer.Answer.{Answer}
use Rattle.guest_kernel.specs.declared.answer.Answer.TheVariants.{Back, Yield, Block, ThreadEnd, ProcessEnd, Born}
use Rattle.guest_kernel.specs.declared.thread.Thread.{Thread}
use Rattle.guest_kernel.specs.Kernel.{KernelState}
use Rattle.guest_calls.specs.Lawful.{GivesNumber}
use Rattle.guest_calls.specs.Table.{syscall}
use Rattle.guest_kernel.proofs.Births.{number_left, room_left}
use Rattle.guest_calls.proofs.AllCalls.{every_syscall_is_lawful}
use Rattle.guest_machine.specs.Laws.{EveryStepStaysWithinLimits, IsWithinLimits}
use Rattle.guest_machine.specs.Machine.{Hart, MachineState, later, registers_of, with_registers}
use Rattle.guest_machine.specs.Step.{after_effect, syscall_of, exec_state_of, executed, harts_after, next_instruction, resumed, step}
use Rattle.guest_machine.proofs.Holders.{fewer_or_same}
use Rattle.guest_machine.proofs.Weights.{harts_kept}

few_after : (answer : Answer) (harts : List Hart) (tid : ℕ) (r : Registers) (old new : KernelState) →
    GivesNumber answer old new → length harts ≡ length old.threads → length harts ≤ THREADS →
    length (harts_after answer harts tid r) ≤ THREADS
few_after (Back value) harts tid r old new given same few = omega (arith, harts_kept harts tid (resumed r value), few)
few_after Yield harts tid r old new given same few = omega (arith, harts_kept harts tid (resumed r 0), few)
few_after Block harts tid r old new given same few = omega (arith, harts_kept harts tid (resumed r 0), few)
few_after ThreadEnd harts tid r old new given same few = omega (arith, fewer_or_same harts tid, few)
few_after (ProcessEnd status) harts tid r old new given same few = omega arith
few_after (Born child registers) harts tid r old new given same few =
    let others = with_registers harts tid (resumed r child) in
    let one : length (others ++ (child, registers) ∷ []) ≡ length others + 1 = length-append others ((child, registers) ∷ []) in
    omega (arith, one, harts_kept harts tid (resumed r child), same, room_left old given.2)

last_after : (answer : Answer) (old new : KernelState) → GivesNumber answer old new → old.last_tid ≤ LAST_TID →
    new.last_tid ≤ LAST_TID
last_after (Born child registers) old new given within = omega (arith, given.0, given.1, number_left old given.2 within)
last_after _ old new given within = omega (arith, given, within)

effect_within : (m : MachineState) (tid : ℕ) (i : Instr) (given : Outcome × ExecState) →
    length m.harts ≡ length m.kernel.threads → IsWithinLimits m → IsWithinLimits (after_effect m tid i given).machine
effect_within m tid i (outcome.Went accessed, c) same within = record {
  few = omega (arith, harts_kept m.harts tid c.registers, within.few);
  last = within.last;
}
effect_within m tid i (outcome.Fault kind, c) same within = within
effect_within m tid i (outcome.Syscall, c) same within =
    let r = syscall (syscall_of (later m) tid) in
    let given = (every_syscall_is_lawful (syscall_of (later m) tid)).numbers in
    record {
      few = few_after r.answer m.harts tid (registers_of m.harts tid) (later m).kernel r.kernel given same within.few;
      last = last_after r.answer (later m).kernel r.kernel given within.last;
    }

executed_within : (m : MachineState) (tid : ℕ) (found : Result Instr FaultKind) →
    length m.harts ≡ length m.kernel.threads → IsWithinLimits m → IsWithinLimits (executed m tid found).machine
executed_within m tid (Ok i) same within = effect_within m tid i (effect tid i (exec_state_of m tid)) same within
executed_within m tid (Err kind) same within = within

pub every_step_within : EveryStepStaysWithinLimits
unfolding step
every_step_within m tid same within =
    let count : length m.harts ≡ length m.kernel.threads = sym (length-map m.harts (λ (h : Hart). h.0)) ∙ ap length same ∙ length-map m.kernel.threads (λ (t : Thread). t.tid) in
    executed_within m tid (next_instruction m tid) count within
