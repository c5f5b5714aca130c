use Rattle.std.proofs.Common.{◌≡◌, length}
use Rattle.guest_machine.specs.Kept.{machine_of, out_of}
use Rattle.guest_machine.specs.Waking.{woken}
use Rattle.guest_machine.proofs.machine.Machine.wake_due.Given as goal

abbrev pub invariant-wakings : goal.invariant-wakings
invariant-wakings l = record {
  woken : woken (machine_of l.self) ≡ woken (machine_of l.initial.self);
  out : out_of l.self ≡ out_of l.initial.self;
  entry : l.self.entry ≡ l.initial.self.entry;
}

abbrev pub decreases-wakings : goal.decreases-wakings
decreases-wakings l = length l.self.kernel.state.deadlines
