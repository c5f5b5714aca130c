use Rattle.std.proofs.Common.{◌≡◌, ◌+◌, ◌%◌, ◌^◌, ◌∷◌, ◌++◌, ap, ap₂, sym, subst, ◌∙◌, Ok, Option, IfSome, IfNone}
use Rattle.rv_exec.specs.Effects.{ExecState, effect, exec_state_of}
use Rattle.rv_exec.specs.Registers.{Registers}
use Rattle.rv_exec.specs.declared.outcome.Outcome.{Outcome}
use Rattle.trace_model.specs.declared.event_kinds.Event.TheVariants.{Step}
use Rattle.call_tracker.specs.Links.{kind_of}
use Rattle.guest_machine.specs.Step.{access_events, instruction_at, jump_events}
use Rattle.guest_machine.specs.Told.{done_by}
use Rattle.guest_machine.proofs.Carried.{known_is, state_holders, state_kept, steps_to}
use Rattle.guest_machine.proofs.Told.{is_alone, told_done}
use Rattle.guest_machine.specs.Private.Carrying.{IsStateOf, StepsTo}
use Rattle.guest_machine.specs.Machine.{MachineState}
use Rattle.guest_machine.specs.declared.stepped.Advanced.{Advanced}
use Rattle.rv_exec.specs.declared.outcome.Outcome.TheVariants as outcome
use Rattle.guest_machine.proofs.known.carry_out.Goals as goal
use Rattle.guest_machine.proofs.known.carry_out.Goals.{in-Went, in-Fault, in-Syscall}

pub execute-requires : goal.execute-requires
execute-requires c =
    let old : ExecState = exec_state_of c.args.cpu.now c.args.memory.now c.args.held.now in
    state_holders old c.args.tid c.requires.state.0 c.requires.state.1

pub told-requires : goal.told-requires
told-requires c =
    let old : ExecState = exec_state_of c.args.cpu.now c.args.memory.now c.args.held.now in
    let new : ExecState = exec_state_of c.execute.new.cpu c.execute.new.memory c.execute.new.held in
    let effects = ap (λ (o : Outcome). (o, new)) (sym c.in-Went.is) ∙ c.execute.ensures.effect in
    record { alone = is_alone c.args.tid c.args.instruction old new c.in-Went.access effects }

pub returns-clause-step : goal.returns-clause-step
returns-clause-step c =
    let old : ExecState = exec_state_of c.args.cpu.now c.args.memory.now c.args.held.now in
    let new : ExecState = exec_state_of c.execute.new.cpu c.execute.new.memory c.execute.new.held in
    let tid = c.args.tid in
    let i = c.args.instruction in
    let here : c.cpu.inside.pc ≡ old.registers.pc = ap (λ (r : Registers). r.pc) c.cpu.view_is in
    let there : c.cpu-2.inside.pc ≡ new.registers.pc = ap (λ (r : Registers). r.pc) c.cpu-2.view_is in
    let known : instruction_at old.memory old.registers.pc ≡ Ok i = known_is old.memory old.registers.pc i c.requires.known in
    let effects : (c.execute.result, new) ≡ effect tid i old = c.execute.ensures.effect in
    elim c.match-execute.branch [
      | in-Went w ↦
          subst (λ (r : Option Advanced). IfSome r (λ advanced. (m : MachineState) → IsStateOf old tid m → StepsTo m tid new (Step tid ∷ done_by tid advanced))) (sym w.result-is)
          (λ m is.
          steps_to m tid old is i known w.in-Went.access new (ap (λ (o : Outcome). (o, new)) (sym w.in-Went.is) ∙ effects) (Step tid ∷ done_by tid w.told.result)
          (sym (told_done tid w.told.result w.told.ensures.instruction) ∙ w.told.ensures.events tid ∙ ap₂ (λ t n. Step tid ∷ (access_events tid w.in-Went.access ++ jump_events (kind_of i) tid t ((n + 4) % 2 ^ 32))) there here))
      | in-Fault w ↦
          subst (λ (r : Option Advanced). IfSome r (λ advanced. (m : MachineState) → IsStateOf old tid m → StepsTo m tid new (Step tid ∷ done_by tid advanced))) (sym w.result-is) tt
      | in-Syscall w ↦
          subst (λ (r : Option Advanced). IfSome r (λ advanced. (m : MachineState) → IsStateOf old tid m → StepsTo m tid new (Step tid ∷ done_by tid advanced))) (sym w.result-is) tt
    ]

pub returns-clause-kept : goal.returns-clause-kept
returns-clause-kept c =
    let old : ExecState = exec_state_of c.args.cpu.now c.args.memory.now c.args.held.now in
    let new : ExecState = exec_state_of c.execute.new.cpu c.execute.new.memory c.execute.new.held in
    let tid = c.args.tid in
    let i = c.args.instruction in
    let effects : (c.execute.result, new) ≡ effect tid i old = c.execute.ensures.effect in
    elim c.match-execute.branch [
      | in-Went w ↦ subst (λ (r : Option Advanced). IfNone r (new ≡ old)) (sym w.result-is) tt
      | in-Fault w ↦
          subst (λ (r : Option Advanced). IfNone r (new ≡ old)) (sym w.result-is)
          (state_kept tid i old new c.execute.result effects (λ access went. absurd (let no : outcome.Went access ≡ outcome.Fault w.in-Fault.kind = sym went ∙ w.in-Fault.is in cc)))
      | in-Syscall w ↦
          subst (λ (r : Option Advanced). IfNone r (new ≡ old)) (sym w.result-is)
          (state_kept tid i old new c.execute.result effects (λ access went. absurd (let no : outcome.Went access ≡ outcome.Syscall = sym went ∙ w.in-Syscall.is in cc)))
    ]
