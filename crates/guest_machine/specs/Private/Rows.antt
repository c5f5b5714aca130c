-- Steps of a thread in a row, as they are made: some that the observer has, and plain ones behind them.
use Rattle.std.specs.Prelude.{◌≡◌, ℕ, ◌+◌, ◌-◌, ◌<◌, ◌≤◌, Bool, List, Option, None, Some, Result, Ok, Err}
use Rattle.std.specs.Allocator.{alloc_error}
use Rattle.std.specs.declared.alloc.AllocError.{AllocError}
use Rattle.rv_exec.specs.Effects.{ExecState, exec_state_of}
use Rattle.rv_exec.specs.Registers.{Registers, with_pc}
use Rattle.guest_memory.specs.Code.{IsInstructionAt}
use Rattle.guest_memory.specs.Guest.{memory_of}
use Rattle.guest_memory.specs.declared.memory.GuestMemory.{GuestMemory}
use Rattle.guest_memory.specs.declared.reservations.Reservations.{Reservations}
use Rattle.rv_isa.specs.declared.instruction.Instr.TheVariants.{Store}
use Rattle.guest_memory.specs.Memory.{Memory}
use Rattle.trace_model.specs.declared.event_kinds.Event.{Event}
use Rattle.trace_model.specs.declared.observer.Observed.{Observed}
use Rattle.trace_model.specs.declared.observer.Observed.TheVariants as observed
use Rattle.trace_model.specs.Observing.{MayTakeAll}
use Rattle.guest_machine.specs.declared.rows.Paused.{Paused}
use Rattle.guest_machine.specs.declared.rows.Paused.TheVariants as paused
use Rattle.guest_machine.specs.declared.rows.Further.{Further}
use Rattle.guest_machine.specs.declared.rows.Further.TheVariants as further
use Rattle.guest_machine.specs.declared.rows.Tried.{Tried}
use Rattle.guest_machine.specs.declared.rows.Tried.TheVariants as tried
use Rattle.guest_machine.specs.declared.stepped.Advanced.{Advanced}
use Rattle.guest_machine.specs.Machine.{MachineState}
use Rattle.guest_machine.specs.Private.Carrying.{Carries, GoesWith, IsStateOf, IsStepOf, MayCarry}
use Rattle.guest_machine.specs.Running.{ObservesSteps}
use Rattle.guest_machine.specs.Told.{IsInstruction, steps_of}

-- steps in a row: those that the observer has, the plain ones behind them, and how many may follow those that it has, the plain
-- ones included
pub record Row : Type 0 where
  pub told : ℕ
  pub plain : ℕ
  pub left : ℕ

-- the row after a step that was handed out, with the plain ones before it
abbrev pub handed : Row → Row
handed row = record { told = row.told + (row.plain + 1); plain = 0; left = row.left - (row.plain + 1) }

-- A row of steps, of at most `most`, led from the first state to this one, and the observer from the old one to this one.
pub record HasRun {O : Type 0} (Stands : O → List Event → Type 0) (fits : List Event → Bool) (tid : ℕ) (first : ExecState) (old : O) (most : ℕ)
    (row : Row) (here : ExecState) (now : O) : Type 0 where
  pub may : MayCarry Stands fits old first tid most
  pub carried : (m : MachineState) → IsStateOf first tid m → GoesWith m tid row.told here row.plain (steps_of tid row.plain)
  pub observed : (m : MachineState) → IsStateOf first tid m → ObservesSteps Stands fits m tid old now row.told observed.Taken
  pub pending : 1 ≤ row.plain → MayTakeAll Stands fits now (steps_of tid row.plain)
  pub room : row.told + row.left ≡ most
  pub within : row.plain ≤ row.left

-- The row's steps led from the first state to this one.
pub record HasMade (tid : ℕ) (first : ExecState) (most : ℕ) (row : Row) (here : ExecState) : Type 0 where
  pub carried : (m : MachineState) → IsStateOf first tid m → Carries m tid here (row.told + row.plain)
  pub few : row.told + row.plain ≤ most

-- The observer refused an event of the last step.
pub record HasEnded {O : Type 0} (Stands : O → List Event → Type 0) (fits : List Event → Bool) (tid : ℕ) (first : ExecState) (old : O) (most : ℕ)
    (row : Row) (here : ExecState) (now : O) : Type 0 where
  pub made : HasMade tid first most row here
  pub none : row.plain ≡ 0
  pub observed : (m : MachineState) → IsStateOf first tid m → ObservesSteps Stands fits m tid old now row.told observed.Refused

-- what has become of the row, by the observer's answer
abbrev pub Runs : {O : Type 0} → (O → List Event → Type 0) → (List Event → Bool) → ℕ → ExecState → O → ℕ → Row → ExecState → O → Result Observed AllocError → Type 0
Runs Stands fits tid first old most row here now (Ok observed.Taken) = HasRun Stands fits tid first old most row here now
Runs Stands fits tid first old most row here now (Ok observed.Refused) = HasEnded Stands fits tid first old most row here now
Runs Stands fits tid first old most row here now (Err e) = HasMade tid first most row here

-- Some row of steps led here.
pub record MayRun {O : Type 0} (Stands : O → List Event → Type 0) (fits : List Event → Bool) (tid : ℕ) (row : Row) (here : ExecState) (now : O) : Type 0 where
  pub first : ExecState
  pub old : O
  pub most : ℕ
  pub run : HasRun Stands fits tid first old most row here now

-- Any row that led to the first state leads on to the second.
abbrev pub RunsOn : {O : Type 0} → (O → List Event → Type 0) → (List Event → Bool) → ℕ → Row → ExecState → O → Row → ExecState → O → Result Observed AllocError → Type 0
RunsOn {O} Stands fits tid row here now row' there later answer =
    (first : ExecState) (old : O) (most : ℕ) → HasRun Stands fits tid first old most row here now → Runs Stands fits tid first old most row' there later answer

-- ---- why a part of the row ends
-- the observer's answer at the end of the steps within a page, or at the next of them
abbrev pub answer_of : Paused → Result Observed AllocError
answer_of paused.Refused = Ok observed.Refused
answer_of paused.OutOfMemory = Err alloc_error
answer_of other = Ok observed.Taken

-- what is known of the next instruction
abbrev pub IsPaused : Memory → ℕ → Row → Paused → Type 0
IsPaused m pc row paused.Went = Unit {0}
IsPaused m pc row paused.Refused = Unit {0}
IsPaused m pc row (paused.Store kind value base offset) = (row.plain < row.left) × IsInstructionAt m pc (Store kind value base offset)
IsPaused m pc row paused.Elsewhere = row.plain < row.left
IsPaused m pc row paused.Stops = Unit {0}
IsPaused m pc row paused.OutOfMemory = Unit {0}

-- The next instruction of a row, which writes no memory, was made or not, as the result says. The row, the program counter, the
-- other registers and the observer are given before and after.
pub record MakesNext {O : Type 0} (Stands : O → List Event → Type 0) (fits : O → List Event → Bool) (tid : ℕ) (memory : GuestMemory)
    (row : Row) (pc : ℕ) (cpu : Registers) (now : O) (row' : Row) (pc' : ℕ) (cpu' : Registers) (later : O) (result : Paused) : Type 0 where
  -- any row that led here leads on, whatever is reserved
  pub runs : (held : Reservations) → RunsOn Stands (fits now) tid row (exec_state_of (with_pc pc cpu) memory held) now
      row' (exec_state_of (with_pc pc' cpu') memory held) later (answer_of result)
  -- what is known of the instruction where the row stands now
  pub next : IsPaused (memory_of memory) pc' row' result
  -- no step of the row is lost
  pub grows : row.told + row.plain ≤ row'.told + row'.plain
  -- where the instruction went, the row has more steps
  pub further : result ≡ paused.Went → row.told + row.plain < row'.told + row'.plain
  -- as many steps may be made in all as before
  pub whole : row'.told + row'.left ≡ row.told + row.left
  -- the observer takes the same events as before
  pub same : fits later ≡ fits now

abbrev pub further_of : Further → Result Observed AllocError
further_of further.Refused = Ok observed.Refused
further_of further.OutOfMemory = Err alloc_error
further_of other = Ok observed.Taken

-- ---- a load or a store of a word that is tried in the loop itself
abbrev pub tried_answer : Tried → Result Observed AllocError
tried_answer tried.Refused = Ok observed.Refused
tried_answer tried.OutOfMemory = Err alloc_error
tried_answer other = Ok observed.Taken

-- the row afterwards
abbrev pub tried_row : Row → Tried → Row
tried_row row tried.Declined = row
tried_row row other = handed row

-- ---- the next step
-- what became of the next instruction: it went, or changed nothing
abbrev pub IsNext : ExecState → ExecState → ℕ → Option Advanced → Type 0
IsNext here there tid None = there ≡ here
IsNext here there tid (Some advanced) = IsStepOf here there tid advanced × IsInstruction advanced

-- Some row of steps led to a state where this is the next.
pub record MayCount {O : Type 0} (Stands : O → List Event → Type 0) (fits : List Event → Bool) (tid : ℕ) (row : Row) (next : Option Advanced) (now : O) : Type 0 where
  pub here : ExecState
  pub there : ExecState
  pub run : MayRun Stands fits tid row here now
  pub step : IsNext here there tid next

-- Any row that led to a state where this is the next step leads on with it.
abbrev pub Counts : {O : Type 0} → (O → List Event → Type 0) → (List Event → Bool) → ℕ → Row → Option Advanced → O → Row → O → Result Observed AllocError → Type 0
Counts {O} Stands fits tid row next now row' later answer =
    (here there : ExecState) → IsNext here there tid next → RunsOn Stands fits tid row here now row' there later answer
