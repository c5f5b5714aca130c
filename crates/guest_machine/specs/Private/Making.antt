-- One step of a row, carried out and told to the observer at once.
use Rattle.std.specs.Prelude.{◌≡◌, ℕ, ℤ, ◌+◌, ◌<◌, ◌%◌, ◌^◌, Bool, List, Result, Ok, Err}
use Rattle.std.specs.Allocator.{alloc_error}
use Rattle.std.specs.declared.alloc.AllocError.{AllocError}
use Rattle.guest_memory.specs.Code.{IsInstructionAt}
use Rattle.guest_memory.specs.Guest.{memory_of}
use Rattle.guest_memory.specs.declared.memory.GuestMemory.{GuestMemory}
use Rattle.guest_memory.specs.declared.reservations.Reservations.{Reservations}
use Rattle.rv_isa.specs.declared.instruction.Instr.TheVariants.{Load, Store}
use Rattle.rv_isa.specs.declared.instruction.LoadKind.{LoadKind}
use Rattle.rv_isa.specs.declared.instruction.StoreKind.{StoreKind}
use Rattle.rv_exec.specs.Effects.{ExecState, advanced, exec_state_of, value}
use Rattle.rv_exec.specs.Operations.{add_offset}
use Rattle.rv_exec.specs.Registers.{Registers, with_pc}
use Rattle.trace_model.specs.declared.event_kinds.Event.{Event}
use Rattle.trace_model.specs.declared.observer.Answer.{Answer}
use Rattle.trace_model.specs.declared.observer.Answer.TheVariants as reply
use Rattle.trace_model.specs.declared.observer.Observed.{Observed}
use Rattle.trace_model.specs.declared.observer.Observed.TheVariants as observed
use Rattle.guest_machine.specs.declared.making.Made.{Made}
use Rattle.guest_machine.specs.declared.making.Made.TheVariants as made
use Rattle.guest_machine.specs.Private.Rows.{MayRun, Row, RunsOn, handed}

-- what became of an instruction that the observer was told of
abbrev pub made_of : Answer → Made
made_of reply.Taken = made.Taken
made_of reply.Refused = made.Refused
made_of reply.OutOfMemory = made.OutOfMemory

-- the observer's answer, and the row afterwards
abbrev pub made_answer : Made → Result Observed AllocError
made_answer made.Refused = Ok observed.Refused
made_answer made.OutOfMemory = Err alloc_error
made_answer other = Ok observed.Taken

abbrev pub made_row : Row → Made → Row
made_row row made.Stops = row
made_row row other = handed row

-- the program counter afterwards, behind an instruction that is no jump
abbrev pub behind : ℕ → Made → ℕ
behind pc made.Stops = pc
behind pc other = (pc + 4) % 2 ^ 32

-- Some row of steps led here, whose next step is the last of `steps` that the observer is told of.
pub record MayMake {O : Type 0} (Stands : O → List Event → Type 0) (fits : List Event → Bool) (tid steps : ℕ) (here : ExecState) (now : O) : Type 0 where
  pub row : Row
  pub low : row.plain < row.left
  pub count : steps ≡ row.plain + 1
  pub run : MayRun Stands fits tid row here now

-- Any such row leads on with this step.
abbrev pub Makes : {O : Type 0} → (O → List Event → Type 0) → (List Event → Bool) → ℕ → ℕ → ExecState → O → ExecState → O → Made → Type 0
Makes {O} Stands fits tid steps here now there later answer =
    (row : Row) → row.plain < row.left → steps ≡ row.plain + 1
    → RunsOn Stands fits tid row here now (made_row row answer) there later (made_answer answer)

-- ---- loads
-- A load of these registers, but for the program counter, from the address is the next step of some row.
pub record MayLoad {O : Type 0} (Stands : O → List Event → Type 0) (fits : List Event → Bool) (tid steps : ℕ) (kind : LoadKind) (rd at : ℕ)
    (r : Registers) (memory : GuestMemory) (now : O) : Type 0 where
  pub pc : ℕ
  pub held : Reservations
  pub base : ℕ
  pub offset : ℤ
  pub known : IsInstructionAt (memory_of memory) pc (Load kind rd base offset)
  pub at_is : at ≡ add_offset (value r base) offset
  pub may : MayMake Stands fits tid steps (exec_state_of (with_pc pc r) memory held) now

-- Wherever that load is the next step, it was made.
abbrev pub MakesLoad : {O : Type 0} → (O → List Event → Type 0) → (List Event → Bool) → ℕ → ℕ → LoadKind → ℕ → ℕ
    → GuestMemory → Registers → O → Registers → O → Made → Type 0
MakesLoad Stands fits tid steps kind rd at memory old now new later answer =
    (pc : ℕ) (held : Reservations) (base : ℕ) (offset : ℤ)
    → IsInstructionAt (memory_of memory) pc (Load kind rd base offset) → at ≡ add_offset (value old base) offset
    → Makes Stands fits tid steps (exec_state_of (with_pc pc old) memory held) now
    (exec_state_of (with_pc (behind pc answer) new) memory held) later answer

-- ---- stores
-- the registers afterwards
abbrev pub stored : Registers → Made → Registers
stored r made.Stops = r
stored r other = advanced r

-- A store of the number to the address is the next step of some row.
pub record MayStore {O : Type 0} (Stands : O → List Event → Type 0) (fits : List Event → Bool) (tid steps : ℕ) (kind : StoreKind) (at n : ℕ)
    (memory : GuestMemory) (held : Reservations) (now : O) : Type 0 where
  pub r : Registers
  pub from : ℕ
  pub base : ℕ
  pub offset : ℤ
  pub known : IsInstructionAt (memory_of memory) r.pc (Store kind from base offset)
  pub at_is : at ≡ add_offset (value r base) offset
  pub n_is : n ≡ value r from
  pub may : MayMake Stands fits tid steps (exec_state_of r memory held) now

-- Wherever that store is the next step, it was made.
abbrev pub MakesStore : {O : Type 0} → (O → List Event → Type 0) → (List Event → Bool) → ℕ → ℕ → StoreKind → ℕ → ℕ
    → GuestMemory → Reservations → O → GuestMemory → Reservations → O → Made → Type 0
MakesStore Stands fits tid steps kind at n memory held now memory' held' later answer =
    (r : Registers) (from base : ℕ) (offset : ℤ)
    → IsInstructionAt (memory_of memory) r.pc (Store kind from base offset) → at ≡ add_offset (value r base) offset → n ≡ value r from
    → Makes Stands fits tid steps (exec_state_of r memory held) now (exec_state_of (stored r answer) memory' held') later answer
