-- The machine as the program keeps it.
use Rattle.std.specs.Prelude.{◌≤◌, ◌+◌, length}
use Rattle.guest_words.specs.declared.limits.TheConstants.{THREADS}
use Rattle.guest_machine.specs.declared.machine.Machine.TheInside.{Inside}
use Rattle.guest_machine.specs.Kept.{Parts, machine_of}
use Rattle.guest_machine.specs.Sound.{IsSoundMachine}

abbrev pub parts_of : Inside → Parts
parts_of m = record {
  harts = m.harts.list;
  kernel = m.kernel;
  memory = m.memory;
  held = m.held;
  entry = m.entry;
  called = m.called;
}

-- there is room for the registers of `THREADS` threads
pub record IsKept (m : Inside) : Type 0 where
  pub spare : THREADS ≤ length m.harts.list + m.harts.room
  pub sound : IsSoundMachine (machine_of (parts_of m))
