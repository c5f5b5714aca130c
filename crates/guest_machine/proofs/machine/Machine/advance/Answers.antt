use Rattle.std.proofs.Common.{◌≡◌, ◌∙◌, ◌%◌, ◌++◌, ap, sym, subst, Ok}
use Rattle.rv_exec.specs.Registers.{Registers}
use Rattle.guest_machine.specs.Kept.{Parts, Steps, machine_of}
use Rattle.guest_machine.specs.Parts.{parts_of}
use Rattle.guest_machine.specs.Told.{stepped_of, told}
use Rattle.guest_machine.specs.Step.{StepResult, executed, instruction_at, next_instruction, pc_of, step}
use Rattle.guest_machine.proofs.Holders.{able_on, lives_kept}
use Rattle.guest_machine.proofs.Registers.{pc_aligned}
use Rattle.guest_machine.proofs.machine.Machine.advance.Goals as goal

pub cpu_of-requires : goal.cpu_of-requires
unfolding machine_of
cpu_of-requires c = lives_kept (machine_of (parts_of c.self.inside)) c.args.tid c.self.invariant.sound (able_on (parts_of c.self.inside) _ c.args.tid c.self.view_is c.requires)

pub instruction_at-requires : goal.instruction_at-requires
unfolding machine_of
instruction_at-requires c =
    let m = machine_of (parts_of c.self.inside) in
    ap (λ (r : Registers). r.pc % 4) (c.behind-self.view_is ∙ c.cpu_of.ensures) ∙ pc_aligned m.harts c.args.tid c.self.invariant.sound.aligned

pub returns-in-Ok-carry_out-clause-step : goal.returns-in-Ok-carry_out-clause-step
unfolding machine_of step
returns-in-Ok-carry_out-clause-step c =
    let m = machine_of (parts_of c.self.inside) in
    let here : c.behind-self.inside.pc ≡ pc_of m c.args.tid = ap (λ (r : Registers). r.pc) (c.behind-self.view_is ∙ c.cpu_of.ensures) in
    let next : next_instruction m c.args.tid ≡ Ok c.in-Ok.instruction = ap (instruction_at m.memory) (sym here) ∙ sym c.instruction_at.ensures ∙ c.in-Ok.is in
    let same = subst (λ (p : Parts). next_instruction (machine_of p) c.args.tid ≡ Ok c.in-Ok.instruction) c.self.view_is next in
    let events = c.args.events.now.list in
    subst (λ (r : StepResult). Steps r (stepped_of c.in-Ok-carry_out.advanced) c.carry_out.new.self events (events ++ told c.args.tid c.in-Ok-carry_out.advanced)) (sym (ap (executed (machine_of c.args.self.now) c.args.tid) same))
    (c.in-Ok-carry_out.ensures.step events)
