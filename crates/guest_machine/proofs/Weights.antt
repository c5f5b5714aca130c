-- How much the events of a step weigh, beside the threads that it adds.
use Rattle.std.proofs.Common.{◌≡◌, ℕ, ◌+◌, ◌%◌, ◌^◌, ◌≤◌, List, [], ◌∷◌, ◌++◌, length, map, refl, ap, sym, ◌∙◌, arith, Ok, Err}
use Rattle.std.specs.Prelude.{Result}
use Rattle.std.proofs.lemmas.List.{length-append, length-map}
use Rattle.guest_words.specs.declared.endings.FaultKind.{FaultKind}
use Rattle.rv_isa.specs.declared.instruction.Instr.{Instr}
use Rattle.rv_exec.specs.Effects.{ExecState, effect}
use Rattle.rv_exec.specs.Laws.{AccessesMemory, IsInMemory}
use Rattle.rv_exec.specs.Registers.{Registers}
use Rattle.rv_exec.proofs.Reach.{effect_accesses}
use Rattle.rv_exec.specs.declared.outcome.Access.{Access}
use Rattle.rv_exec.specs.declared.outcome.Access.TheVariants as access
use Rattle.rv_exec.specs.declared.outcome.Outcome.{Outcome}
use Rattle.rv_exec.specs.declared.outcome.Outcome.TheVariants as outcome
use Rattle.call_tracker.specs.Links.{kind_of}
use Rattle.call_tracker.specs.declared.jumps.JumpKind.{JumpKind}
use Rattle.call_tracker.specs.declared.jumps.JumpKind.TheVariants.{Nothing}
use Rattle.trace_model.specs.declared.event_kinds.Event.TheVariants.{End}
use Rattle.trace_model.specs.WellFormed.{weight}
use Rattle.guest_kernel.specs.declared.answer.Answer.{Answer}
use Rattle.guest_kernel.specs.declared.answer.Answer.TheVariants.{Back, Yield, Block, ThreadEnd, ProcessEnd, Born}
use Rattle.guest_calls.specs.Table.{syscall}
use Rattle.guest_calls.proofs.AllCalls.{every_syscall_is_lawful}
use Rattle.trace_model.proofs.Bounds.{weight-append}
use Rattle.guest_machine.specs.Laws.{EveryStepIsLight}
use Rattle.guest_machine.specs.Machine.{Hart, MachineState, later, registers_of, with_registers}
use Rattle.guest_machine.specs.Step.{access_events, after_effect, syscall_of, exec_state_of, executed, harts_after, jump_events, life_events, next_instruction, pc_of, resumed, step}
use Rattle.guest_machine.proofs.Holders.{fewer_or_same}
use Rattle.guest_machine.proofs.Registers.{tids-with_registers}

pub harts_kept : (harts : List Hart) (tid : ℕ) (r : Registers) → length (with_registers harts tid r) ≡ length harts
harts_kept harts tid r =
    sym (length-map (with_registers harts tid r) (λ (h : Hart). h.0)) ∙ ap length (tids-with_registers harts tid r) ∙ length-map harts (λ (h : Hart). h.0)

ends_weight : (harts : List Hart) → weight (map (λ (h : Hart). End h.0) harts) ≡ length harts
ends_weight [] = refl
ends_weight (h ∷ harts) = omega (arith, ends_weight harts)

life_weight : (answer : Answer) (harts : List Hart) (tid : ℕ) (r : Registers) →
    weight (life_events answer harts tid) + length (harts_after answer harts tid r) ≤ 2 + length harts
life_weight (Back value) harts tid r = omega (arith, harts_kept harts tid (resumed r value))
life_weight Yield harts tid r = omega (arith, harts_kept harts tid (resumed r 0))
life_weight Block harts tid r = omega (arith, harts_kept harts tid (resumed r 0))
life_weight ThreadEnd harts tid r = omega (arith, fewer_or_same harts tid)
life_weight (ProcessEnd status) harts tid r = omega (arith, ends_weight harts)
life_weight (Born child registers) harts tid r =
    let one : length (with_registers harts tid (resumed r child) ++ (child, registers) ∷ []) ≡ length (with_registers harts tid (resumed r child)) + 1 = length-append (with_registers harts tid (resumed r child)) ((child, registers) ∷ []) in
    omega (arith, one, harts_kept harts tid (resumed r child))

access_weight : (tid : ℕ) (a : Access) → IsInMemory a → weight (access_events tid a) ≤ 3
access_weight tid (access.Read first count) few = omega (arith, few.1)
access_weight tid _ few = omega arith

jump_weight : (kind : JumpKind) (tid target back : ℕ) → weight (jump_events kind tid target back) ≤ 2
jump_weight Nothing tid target back = omega arith
jump_weight _ tid target back = omega arith

effect_weight : (m : MachineState) (tid : ℕ) (i : Instr) (given : Outcome × ExecState) → AccessesMemory given.0 →
    weight (after_effect m tid i given).events + length (after_effect m tid i given).machine.harts ≤ 65540 + length m.harts
effect_weight m tid i (outcome.Went accessed, c) few =
    let back = (pc_of m tid + 4) % 2 ^ 32 in
    let both = weight-append (access_events tid accessed) (jump_events (kind_of i) tid c.registers.pc back) in
    omega (arith, both, access_weight tid accessed few, jump_weight (kind_of i) tid c.registers.pc back, harts_kept m.harts tid c.registers)
effect_weight m tid i (outcome.Fault kind, c) few = omega arith
effect_weight m tid i (outcome.Syscall, c) few =
    let r = syscall (syscall_of (later m) tid) in
    let both = weight-append r.guest.events (life_events r.answer m.harts tid) in
    omega (arith, both, (every_syscall_is_lawful (syscall_of (later m) tid)).light, life_weight r.answer m.harts tid (registers_of m.harts tid))

executed_weight : (m : MachineState) (tid : ℕ) (found : Result Instr FaultKind) →
    weight (executed m tid found).events + length (executed m tid found).machine.harts ≤ 65540 + length m.harts
executed_weight m tid (Ok i) = effect_weight m tid i (effect tid i (exec_state_of m tid)) (effect_accesses tid i (exec_state_of m tid))
executed_weight m tid (Err kind) = omega arith

pub every_step_light : EveryStepIsLight
unfolding step
every_step_light m tid = executed_weight m tid (next_instruction m tid)
