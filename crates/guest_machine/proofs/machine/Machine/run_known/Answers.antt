use Rattle.std.proofs.Common.{rules, ◌≡◌, ◌∙◌, Result, IfOk, Some, ap, refl, sym, subst, arith}
use Rattle.std.specs.Option.{option_copied_mut}
use Rattle.std.specs.declared.alloc.AllocError.{AllocError}
use Rattle.guest_words.specs.ByThread.{value_of}
use Rattle.guest_words.proofs.ThreadTables.{length-with}
use Rattle.guest_memory.specs.Guest.{memory_of}
use Rattle.guest_memory.specs.ReservedBy.{reserved_by}
use Rattle.rv_exec.specs.Effects.{exec_state_of}
use Rattle.trace_model.specs.declared.observer.Observed.{Observed}
use Rattle.guest_kernel.specs.declared.kernel.Kernel.{Kernel}
use Rattle.guest_machine.specs.Private.Carrying.{IsStateOf}
use Rattle.guest_machine.specs.Kept.{Parts, machine_of}
use Rattle.guest_machine.specs.Machine.{MachineState, with_registers}
use Rattle.guest_machine.specs.Parts.{parts_of}
use Rattle.guest_machine.specs.Running.{AllGoOn, MayTakeSteps, ObservesSteps, after_steps}
use Rattle.guest_machine.specs.Sound.{IsSoundMachine}
use Rattle.guest_machine.proofs.Carried.{state_is}
use Rattle.guest_machine.proofs.Holders.{able_on, lives_kept}
use Rattle.guest_machine.proofs.machine.Machine.run_known.Goals as goal

pub unwrap-cpu-requires : goal.unwrap-cpu-requires
unfolding machine_of
unwrap-cpu-requires g c =
    let lives = lives_kept (machine_of (parts_of c.self.inside)) c.args.tid c.self.invariant.sound (able_on (parts_of c.self.inside) _ c.args.tid c.self.view_is c.requires.can_run) in
    search rules

pub run_on-count-requires : goal.run_on-count-requires
unfolding machine_of
run_on-count-requires g c =
    let m = machine_of (parts_of c.self.inside) in
    let here : value_of m.harts c.args.tid ≡ Some c.unwrap-cpu.result.now = sym c.get_mut.ensures.found ∙ ap option_copied_mut c.unwrap-cpu.ensures in
    record {
      machine = m;
      of = state_is m c.args.tid c.unwrap-cpu.result.now here c.self.invariant.sound (able_on (parts_of c.self.inside) _ c.args.tid c.self.view_is c.requires.can_run);
      next = subst (λ (p : Parts). MayTakeSteps g.W.Observer.stands (g.W.Observer.fits c.args.observer.now) c.args.observer.now (machine_of p) c.args.tid c.args.most) (sym c.self.view_is) c.requires.next;
    }

pub returns-clause-made : goal.returns-clause-made
unfolding machine_of
returns-clause-made g c =
    let m = machine_of (parts_of c.self.inside) in
    let here : value_of m.harts c.args.tid ≡ Some c.unwrap-cpu.result.now = sym c.get_mut.ensures.found ∙ ap option_copied_mut c.unwrap-cpu.ensures in
    let is = state_is m c.args.tid c.unwrap-cpu.result.now here c.self.invariant.sound (able_on (parts_of c.self.inside) _ c.args.tid c.self.view_is c.requires.can_run) in
    let carries = c.run_on-count.ensures.carried m is in
    let same = ap (λ (k : Kernel). let s : MachineState = record m { harts = with_registers m.harts c.args.tid c.run_on-count.new.cpu; kernel = k.state; memory = memory_of c.run_on-count.new.memory; held = reserved_by c.run_on-count.new.held } in s) c.advance_by.ensures in
    let observed = subst (λ (r : Result Observed AllocError). IfOk r (λ o. (k : MachineState) → IsStateOf (exec_state_of c.unwrap-cpu.result.now c.self.inside.memory c.self.inside.held) c.args.tid k
    → ObservesSteps g.W.Observer.stands (g.W.Observer.fits c.args.observer.now) k c.args.tid c.args.observer.now c.run_on-count.new.observer c.run_on-count.result.0 o))
    c.in_ok-observed.was c.run_on-count.ensures.observed in
    let count = c.run_on-count.result.0 in
    record {
      all = subst (λ (p : Parts). AllGoOn (machine_of p) c.args.tid count) c.self.view_is carries.all;
      machine = same ∙ carries.machine ∙ ap (λ (p : Parts). after_steps (machine_of p) c.args.tid count) c.self.view_is;
      out = refl;
      observed = subst (λ (p : Parts). ObservesSteps g.W.Observer.stands (g.W.Observer.fits c.args.observer.now) (machine_of p) c.args.tid c.args.observer.now c.run_on-count.new.observer count c.in_ok-observed.observed) c.self.view_is (observed m is);
    }

pub invariant_of-self : goal.invariant_of-self
unfolding machine_of
invariant_of-self g c =
    let m = machine_of (parts_of c.self.inside) in
    let here : value_of m.harts c.args.tid ≡ Some c.unwrap-cpu.result.now = sym c.get_mut.ensures.found ∙ ap option_copied_mut c.unwrap-cpu.ensures in
    let carries = c.run_on-count.ensures.carried m (state_is m c.args.tid c.unwrap-cpu.result.now here c.self.invariant.sound (able_on (parts_of c.self.inside) _ c.args.tid c.self.view_is c.requires.can_run)) in
    let same = ap (λ (k : Kernel). let s : MachineState = record m { harts = with_registers m.harts c.args.tid c.run_on-count.new.cpu; kernel = k.state; memory = memory_of c.run_on-count.new.memory; held = reserved_by c.run_on-count.new.held } in s) c.advance_by.ensures in
    record {
      spare = omega (arith, c.self.invariant.spare, length-with c.self.inside.harts.list c.args.tid c.run_on-count.new.cpu);
      sound = subst IsSoundMachine (sym (same ∙ carries.machine)) carries.of.sound;
    }

pub invariant_of-self-2 : goal.invariant_of-self-2
unfolding machine_of
invariant_of-self-2 g c =
    let m = machine_of (parts_of c.self.inside) in
    let here : value_of m.harts c.args.tid ≡ Some c.unwrap-cpu.result.now = sym c.get_mut.ensures.found ∙ ap option_copied_mut c.unwrap-cpu.ensures in
    let carries = c.run_on-count.ensures.carried m (state_is m c.args.tid c.unwrap-cpu.result.now here c.self.invariant.sound (able_on (parts_of c.self.inside) _ c.args.tid c.self.view_is c.requires.can_run)) in
    let same = ap (λ (k : Kernel). let s : MachineState = record m { harts = with_registers m.harts c.args.tid c.run_on-count.new.cpu; kernel = k.state; memory = memory_of c.run_on-count.new.memory; held = reserved_by c.run_on-count.new.held } in s) c.advance_by.ensures in
    record {
      spare = omega (arith, c.self.invariant.spare, length-with c.self.inside.harts.list c.args.tid c.run_on-count.new.cpu);
      sound = subst IsSoundMachine (sym (same ∙ carries.machine)) carries.of.sound;
    }
