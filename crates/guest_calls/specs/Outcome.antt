-- What the code of a call gives, over the types of the code.
use Rattle.std.specs.Prelude.{◌≡◌, ℕ}
use Rattle.trace_model.specs.EventList.{EventList}
use Rattle.guest_memory.specs.declared.memory.GuestMemory.{GuestMemory}
use Rattle.guest_memory.specs.declared.reservations.Reservations.{Reservations}
use Rattle.guest_memory.specs.Guest.{memory_of}
use Rattle.guest_memory.specs.ReservedBy.{reserved_by}
use Rattle.rv_exec.specs.Registers.{Registers}
use Rattle.guest_kernel.specs.declared.answer.Answer.{Answer}
use Rattle.guest_calls.specs.declared.caller.Caller.{Caller}
use Rattle.guest_kernel.specs.Kernel.{KernelState}
use Rattle.guest_kernel.specs.declared.kernel.Kernel.{Kernel}
use Rattle.guest_calls.specs.Results.{Syscall, SyscallResult, Guest}
use Rattle.guest_kernel.specs.Copies.{Adds, KeepsRoom}

-- the thread calls, with these registers
abbrev pub calling : ℕ → Registers → Caller
calling tid registers = record { tid = tid; cpu = registers }

-- the call that the caller's registers hold
abbrev pub asked : Caller → KernelState → GuestMemory → Reservations → Syscall
asked caller kernel memory held = record {
  tid = caller.tid;
  registers = caller.cpu;
  kernel = kernel;
  memory = memory_of memory;
  held = reserved_by held;
}

-- the guest, with all events so far
abbrev pub guest_of : GuestMemory → Reservations → EventList → Guest
guest_of memory held events = record { memory = memory_of memory; held = reserved_by held; events = events.list }

-- the answer, the state, the memory and the reservations are those of the result, and its events are added
pub record Does (r : SyscallResult) (answer : Answer) (state : KernelState) (memory : GuestMemory) (held : Reservations) (before after : EventList) : Type 0 where
  pub answered : answer ≡ r.answer
  pub state_is : state ≡ r.kernel
  pub memory_is : memory_of memory ≡ r.guest.memory
  pub held_is : reserved_by held ≡ r.guest.held
  pub events : Adds r.guest.events before after

-- the same of a call that leaves the guest as it is, whatever the guest is
abbrev pub DoesQuietly : (Syscall → SyscallResult) → Caller → KernelState → Answer → KernelState → Type 0
DoesQuietly what caller old answer new =
    (memory : GuestMemory) (held : Reservations) (events : EventList)
    → Does (what (asked caller old memory held)) answer new memory held events events

-- the same of a call that leaves all but the memory as it is, whatever that is
abbrev pub DoesToMemory : (Syscall → SyscallResult) → Caller → GuestMemory → Answer → GuestMemory → Type 0
DoesToMemory what caller old answer new =
    (kernel : KernelState) (held : Reservations) (events : EventList)
    → Does (what (asked caller kernel old held)) answer kernel new held events events

-- the same with what goes out
pub record Gives (r : SyscallResult) (answer : Answer) (kept : Kernel) (memory : GuestMemory) (held : Reservations) (before after : EventList) : Type 0 where
  pub does : Does r answer kept.state memory held before after
  pub out : kept.outgoing ≡ r.out

-- nothing changed, and no room is lost
pub record IsUntouched (state state_new : KernelState) (memory memory_new : GuestMemory) (held held_new : Reservations) (before after : EventList) : Type 0 where
  pub state_same : state_new ≡ state
  pub memory_same : memory_of memory_new ≡ memory_of memory
  pub held_same : reserved_by held_new ≡ reserved_by held
  pub events_same : after.list ≡ before.list
  pub room : KeepsRoom before after

-- nothing changed, and what went out is still there
pub record IsAsBefore (kept kept_new : Kernel) (memory memory_new : GuestMemory) (held held_new : Reservations) (before after : EventList) : Type 0 where
  pub untouched : IsUntouched kept.state kept_new.state memory memory_new held held_new before after
  pub out_same : kept_new.outgoing ≡ kept.outgoing
