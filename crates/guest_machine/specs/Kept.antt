-- What the program's machine means.
use Rattle.std.specs.Prelude.{◌≡◌, ℕ, Bool, List, ◌++◌, Option, None, if◌then◌else◌}
use Rattle.guest_memory.specs.declared.memory.GuestMemory.{GuestMemory}
use Rattle.guest_memory.specs.declared.reservations.Reservations.{Reservations}
use Rattle.guest_memory.specs.Guest.{memory_of}
use Rattle.guest_memory.specs.ReservedBy.{reserved_by}
use Rattle.trace_model.specs.declared.event_kinds.Event.{Event}
use Rattle.guest_kernel.specs.declared.channel.Channel.{Channel}
use Rattle.guest_kernel.specs.declared.kernel.Kernel.{Kernel}
use Rattle.guest_machine.specs.declared.stepped.Stepped.{Stepped}
use Rattle.guest_machine.specs.Machine.{Hart, MachineState}
use Rattle.guest_machine.specs.Step.{StepResult}

-- The parts of a machine, as the program keeps them.
pub record Parts : Type 0 where
  pub harts : List Hart
  pub kernel : Kernel
  pub memory : GuestMemory
  pub held : Reservations
  -- where thread 1 began
  pub entry : ℕ
  -- whether the last step was a system call
  pub called : Bool

-- the state that they stand for
unfoldable pub machine_of : Parts → MachineState
machine_of p = record {
  harts = p.harts;
  kernel = p.kernel.state;
  memory = memory_of p.memory;
  held = reserved_by p.held;
}

-- the bytes that the last step put out, with their channel
abbrev pub out_of : Parts → Option (Channel × List ℕ)
out_of p = if p.called then p.kernel.outgoing else None

-- the outcome, the machine, what goes out and the events that were added are those of the result
pub record Steps (r : StepResult) (outcome : Stepped) (new : Parts) (before after : List Event) : Type 0 where
  pub went : outcome ≡ r.outcome
  pub machine : machine_of new ≡ r.machine
  pub out : out_of new ≡ r.out
  pub events : after ≡ before ++ r.events

-- nothing changed
pub record IsAsBefore (old new : Parts) (before after : List Event) : Type 0 where
  pub machine : machine_of new ≡ machine_of old
  pub out : out_of new ≡ out_of old
  pub events : after ≡ before
