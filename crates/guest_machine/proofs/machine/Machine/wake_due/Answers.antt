use Rattle.std.proofs.Common.{◌≡◌, length, true, false, is_some, ap, sym, ◌∙◌, arith}
use Rattle.guest_kernel.specs.Waking.{next_due}
use Rattle.guest_machine.specs.Kept.{machine_of}
use Rattle.guest_machine.specs.Machine.{MachineState}
use Rattle.guest_machine.specs.Waking.{woken}
use Rattle.guest_machine.proofs.ClockWakings.{less_on, woken_off, woken_on}
use Rattle.guest_machine.proofs.machine.Machine.wake_due.Goals as goal

pub wakings-smaller : goal.wakings-smaller
unfolding machine_of
wakings-smaller c =
    let m = machine_of c.wakings.self in
    let some : is_some (next_due m.kernel) ≡ true = sym c.wake_one.ensures.some ∙ c.wakings-test.true in
    let less = less_on m some in
    let same = ap (λ (s : MachineState). length s.kernel.deadlines) c.wake_one.ensures.woken in
    omega (arith, less, same)

pub wakings-preserved : goal.wakings-preserved
unfolding machine_of
wakings-preserved c =
    let m = machine_of c.wakings.self in
    let some : is_some (next_due m.kernel) ≡ true = sym c.wake_one.ensures.some ∙ c.wakings-test.true in
    record {
      woken = ap woken c.wake_one.ensures.woken ∙ woken_on m some ∙ c.wakings.invariant.woken;
      out = c.wake_one.ensures.out ∙ c.wakings.invariant.out;
      entry = c.wake_one.ensures.entry ∙ c.wakings.invariant.entry;
    }

pub returns-clause-woken : goal.returns-clause-woken
unfolding machine_of
returns-clause-woken c =
    let m = machine_of c.wakings.self in
    let none : is_some (next_due m.kernel) ≡ false = sym c.wake_one.ensures.some ∙ c.wakings-test.false in
    c.wake_one.ensures.woken ∙ woken_off m none ∙ c.wakings.invariant.woken
