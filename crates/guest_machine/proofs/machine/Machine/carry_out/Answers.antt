use Rattle.std.proofs.Common.{◌≡◌, arith, length, ◌∙◌, ◌++◌, ap, ap₂, refl, sym, subst, false, Ok}
use Rattle.guest_words.proofs.ThreadTables.{length-with}
use Rattle.guest_memory.specs.Guest.{memory_of}
use Rattle.guest_memory.specs.ReservedBy.{reserved_by}
use Rattle.rv_exec.specs.Effects.{ExecState}
use Rattle.guest_machine.specs.Kept.{Parts, Steps, machine_of}
use Rattle.guest_machine.specs.Told.{stepped_of, told}
use Rattle.guest_machine.specs.Step.{executed, faulted, pc_of}
use Rattle.guest_machine.specs.declared.stepped.Stepped.{Stepped}
use Rattle.guest_kernel.specs.Kernel.{KernelState}
use Rattle.guest_kernel.specs.declared.kernel.Kernel.{Kernel}
use Rattle.guest_machine.specs.Machine.{later, registers_of}
use Rattle.guest_machine.specs.Parts.{parts_of}
use Rattle.guest_machine.specs.Sound.{IsSoundMachine}
use Rattle.guest_machine.proofs.Executed.{Steps-went, executed-fault, executed-no_call, fault-state, sound-state, unchanged}
use Rattle.guest_machine.proofs.Told.{is_alone, told-went}
use Rattle.guest_machine.proofs.Holders.{HoldAtMost-others, able_on, lives_kept}
use Rattle.guest_machine.proofs.machine.Machine.carry_out.Goals as goal

pub execute_for-outcome-requires-clause-lives : goal.execute_for-outcome-requires-clause-lives
unfolding machine_of
execute_for-outcome-requires-clause-lives c = lives_kept (machine_of (parts_of c.self.inside)) c.args.tid c.self.invariant.sound (able_on (parts_of c.self.inside) _ c.args.tid c.self.view_is c.requires.can_run)

pub execute_for-outcome-requires-clause-held : goal.execute_for-outcome-requires-clause-held
unfolding machine_of
execute_for-outcome-requires-clause-held c = HoldAtMost-others _ c.args.tid c.self.invariant.sound (able_on (parts_of c.self.inside) _ c.args.tid c.self.view_is c.requires.can_run)

pub unreachable-requires : goal.unreachable-requires
unfolding machine_of
unreachable-requires c =
    let after : ExecState = record { registers = registers_of c.execute_for-outcome.new.harts.list c.args.tid; memory = memory_of c.execute_for-outcome.new.memory; held = reserved_by c.execute_for-outcome.new.held } in
    executed-no_call (machine_of (parts_of c.self.inside)) c.args.tid c.args.instruction.now after (ap (λ o. (o, after)) (sym c.in-Syscall.is) ∙ c.execute_for-outcome.ensures.effect) c.requires.no_call

pub told-requires : goal.told-requires
unfolding machine_of
told-requires c =
    let after : ExecState = record { registers = registers_of c.execute_for-outcome.new.harts.list c.args.tid; memory = memory_of c.execute_for-outcome.new.memory; held = reserved_by c.execute_for-outcome.new.held } in
    record { alone = is_alone c.args.tid c.args.instruction.now _ after c.in-Went.access (ap (λ o. (o, after)) (sym c.in-Went.is) ∙ c.execute_for-outcome.ensures.effect) }

pub returns-in-Went-clause-quiet : goal.returns-in-Went-clause-quiet
returns-in-Went-clause-quiet c = λ events. c.told.ensures.quiet _ events refl

pub returns-in-Went-clause-step : goal.returns-in-Went-clause-step
unfolding machine_of
returns-in-Went-clause-step c = λ before.
    let after : ExecState = record { registers = registers_of c.execute_for-outcome.new.harts.list c.args.tid; memory = memory_of c.execute_for-outcome.new.memory; held = reserved_by c.execute_for-outcome.new.held } in
    let m = machine_of (parts_of c.self.inside) in
    let machine = ap₂ (λ harts (kernel : KernelState). record m { harts = harts; kernel = kernel; memory = after.memory; held = after.held }) c.execute_for-outcome.ensures.harts (ap (λ (k : Kernel). k.state) c.advance.ensures) in
    subst (λ (q : Parts). Steps (executed (machine_of q) c.args.tid (Ok c.args.instruction.now)) (stepped_of c.told.result) (parts_of (record { harts = c.execute_for-outcome.new.harts; kernel = c.advance.new.self; memory = c.execute_for-outcome.new.memory; held = c.execute_for-outcome.new.held; entry = c.self.inside.entry; called = false })) before (before ++ told c.args.tid c.told.result)) c.self.view_is (
    subst (λ (outcome : Stepped). Steps (executed m c.args.tid (Ok c.args.instruction.now)) outcome (parts_of (record { harts = c.execute_for-outcome.new.harts; kernel = c.advance.new.self; memory = c.execute_for-outcome.new.memory; held = c.execute_for-outcome.new.held; entry = c.self.inside.entry; called = false })) before (before ++ told c.args.tid c.told.result)) (sym c.told.ensures.stepped)
    (Steps-went (parts_of c.self.inside) _ c.args.tid c.args.instruction.now c.in-Went.access after before _ (ap (λ o. (o, after)) (sym c.in-Went.is) ∙ c.execute_for-outcome.ensures.effect) machine refl
    (told-went (later m) c.args.tid c.args.instruction.now c.in-Went.access after before _ _ _ (c.told.ensures.events c.args.tid) c.execute_for-outcome.ensures.pc (c.requires.pc ∙ ap (λ (q : Parts). pc_of (machine_of q) c.args.tid) (sym c.self.view_is))))
    )

pub returns-in-Fault-clause-fault : goal.returns-in-Fault-clause-fault
unfolding machine_of
returns-in-Fault-clause-fault c =
    let after : ExecState = record { registers = registers_of c.execute_for-outcome.new.harts.list c.args.tid; memory = memory_of c.execute_for-outcome.new.memory; held = reserved_by c.execute_for-outcome.new.held } in
    subst (λ (q : Parts). executed (machine_of q) c.args.tid (Ok c.args.instruction.now) ≡ faulted (machine_of q) c.args.tid c.in-Fault.kind) c.self.view_is
    (executed-fault (machine_of (parts_of c.self.inside)) c.args.tid c.args.instruction.now c.in-Fault.kind after (ap (λ o. (o, after)) (sym c.in-Fault.is) ∙ c.execute_for-outcome.ensures.effect))

pub returns-in-Fault-clause-kept : goal.returns-in-Fault-clause-kept
unfolding machine_of
returns-in-Fault-clause-kept c =
    let after : ExecState = record { registers = registers_of c.execute_for-outcome.new.harts.list c.args.tid; memory = memory_of c.execute_for-outcome.new.memory; held = reserved_by c.execute_for-outcome.new.held } in
    let m = machine_of (parts_of c.self.inside) in
    unchanged m c.args.tid after c.execute_for-outcome.new.harts.list (lives_kept (machine_of (parts_of c.self.inside)) c.args.tid c.self.invariant.sound (able_on (parts_of c.self.inside) _ c.args.tid c.self.view_is c.requires.can_run)) c.execute_for-outcome.ensures.harts (fault-state m c.args.tid c.args.instruction.now c.in-Fault.kind after (ap (λ o. (o, after)) (sym c.in-Fault.is) ∙ c.execute_for-outcome.ensures.effect)) ∙ ap machine_of c.self.view_is

pub invariant_of-self : goal.invariant_of-self
unfolding machine_of
invariant_of-self c =
    let m = machine_of (parts_of c.self.inside) in
    let after : ExecState = record { registers = registers_of c.execute_for-outcome.new.harts.list c.args.tid; memory = memory_of c.execute_for-outcome.new.memory; held = reserved_by c.execute_for-outcome.new.held } in
    let sound = sound-state m c.args.tid c.args.instruction.now _ after (ap (λ o. (o, after)) (sym c.in-Went.is) ∙ c.execute_for-outcome.ensures.effect) c.self.invariant.sound (able_on (parts_of c.self.inside) _ c.args.tid c.self.view_is c.requires.can_run) in
    let machine = ap₂ (λ harts (kernel : KernelState). record m { harts = harts; kernel = kernel; memory = after.memory; held = after.held }) c.execute_for-outcome.ensures.harts (ap (λ (k : Kernel). k.state) c.advance.ensures) in
    let harts = c.self.inside.harts.list in
    let kept = length-with harts c.args.tid (registers_of c.execute_for-outcome.new.harts.list c.args.tid) in
    record {
      spare = omega (arith, ap length c.execute_for-outcome.ensures.harts, kept, c.execute_for-outcome.ensures.room);
      sound = subst IsSoundMachine (sym machine) sound;
    }

pub invariant_of-self-in-Fault : goal.invariant_of-self-in-Fault
unfolding machine_of
invariant_of-self-in-Fault c =
    let after : ExecState = record { registers = registers_of c.execute_for-outcome.new.harts.list c.args.tid; memory = memory_of c.execute_for-outcome.new.memory; held = reserved_by c.execute_for-outcome.new.held } in
    let m = machine_of (parts_of c.self.inside) in
    let harts = c.self.inside.harts.list in
    let kept = length-with harts c.args.tid (registers_of c.execute_for-outcome.new.harts.list c.args.tid) in
    record {
      spare = omega (arith, ap length c.execute_for-outcome.ensures.harts, kept, c.execute_for-outcome.ensures.room);
      sound = subst IsSoundMachine (sym (unchanged m c.args.tid after c.execute_for-outcome.new.harts.list (lives_kept (machine_of (parts_of c.self.inside)) c.args.tid c.self.invariant.sound (able_on (parts_of c.self.inside) _ c.args.tid c.self.view_is c.requires.can_run)) c.execute_for-outcome.ensures.harts (fault-state m c.args.tid c.args.instruction.now c.in-Fault.kind after (ap (λ o. (o, after)) (sym c.in-Fault.is) ∙ c.execute_for-outcome.ensures.effect)))) c.self.invariant.sound;
    }
