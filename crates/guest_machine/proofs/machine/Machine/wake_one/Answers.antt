use Rattle.std.proofs.Common.{◌≡◌, length, ap, sym, subst, ◌∙◌, arith}
use Rattle.guest_kernel.specs.Invariant.{IsState}
use Rattle.guest_kernel.specs.declared.kernel.Kernel.{Kernel}
use Rattle.guest_machine.specs.Kept.{Parts, machine_of}
use Rattle.guest_machine.specs.Parts.{parts_of}
use Rattle.guest_machine.specs.Sound.{IsSoundMachine}
use Rattle.guest_machine.specs.Waking.{one_woken}
use Rattle.guest_machine.proofs.ClockWakings.{has_registers, sound_woken, woken_none, woken_some}
use Rattle.guest_machine.proofs.Weights.{harts_kept}
use Rattle.guest_machine.proofs.machine.Machine.wake_one.Goals as goal

pub returns-in_default-clause-woken : goal.returns-in_default-clause-woken
unfolding machine_of
returns-in_default-clause-woken c =
    woken_none (machine_of (parts_of c.self.inside)) c.wake_due.new.self.state (sym c.in_default.is ∙ c.wake_due.ensures.due) (ap (λ (k : Kernel). k.state) c.wake_due.ensures.after)
    ∙ ap (λ (p : Parts). one_woken (machine_of p)) c.self.view_is

pub answer-requires : goal.answer-requires
unfolding machine_of
answer-requires c = has_registers (machine_of (parts_of c.self.inside)) _ c.self.invariant.sound c.in-Some.ensures.lives

pub invariant_of-self-2 : goal.invariant_of-self-2
unfolding machine_of
invariant_of-self-2 c =
    let m = machine_of (parts_of c.self.inside) in
    let kept : length c.answer.new.harts.list ≡ length c.self.inside.harts.list = ap length c.answer.ensures.list ∙ harts_kept c.self.inside.harts.list _ _ in
    let woken = woken_some m c.wake_due.new.self.state c.answer.new.harts.list _ c.in-Some.ensures.due c.answer.ensures.list (ap (λ (k : Kernel). k.state) c.wake_due.ensures.after) in
    record {
      spare = omega (arith, kept, c.answer.ensures.room, c.self.invariant.spare);
      sound = subst IsSoundMachine (sym woken) (sound_woken m c.self.invariant.sound (subst IsState (ap (λ (k : Kernel). k.state) c.wake_due.ensures.after) c.wake_due.ensures.state));
    }

pub returns-clause-woken : goal.returns-clause-woken
unfolding machine_of
returns-clause-woken c =
    woken_some (machine_of (parts_of c.self.inside)) c.wake_due.new.self.state c.answer.new.harts.list _ c.in-Some.ensures.due c.answer.ensures.list (ap (λ (k : Kernel). k.state) c.wake_due.ensures.after)
    ∙ ap (λ (p : Parts). one_woken (machine_of p)) c.self.view_is
