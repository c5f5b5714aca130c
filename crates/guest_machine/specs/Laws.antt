-- What holds of every step.
use Rattle.std.specs.Prelude.{◌≡◌, ℕ, ◌+◌, ◌≤◌, ◌<◌, ◌^◌, true, List, [], ◌∷◌, ◌++◌, length, map, reverse, filter, nat_lt, nat_le, ◌&&◌, ◌==◌, Option, Some, None}
use Rattle.guest_words.specs.declared.limits.TheConstants.{LAST_TID, THREADS}
use Rattle.trace_model.specs.declared.event_kinds.Event.{Event}
use Rattle.trace_model.specs.declared.event_kinds.Event.TheVariants.{Step, Call, Ret, Start}
use Rattle.trace_model.specs.Parts.{IsShort}
use Rattle.trace_model.specs.Profile.{steps}
use Rattle.trace_model.specs.WellFormed.{MayFollow, greatest_start, is_live, weight}
use Rattle.guest_kernel.specs.Invariant.{IsState, RisesTo}
use Rattle.guest_kernel.specs.Kernel.{lives}
use Rattle.guest_kernel.specs.Waking.{IsAwake, moved_on}
use Rattle.virtual_clock.specs.Once.{IsOnce}
use Rattle.virtual_clock.specs.declared.deadline.Deadline.{Deadline}
use Rattle.rv_exec.specs.Registers.{Registers}
use Rattle.std.specs.List.{AllByRecursion, find}
use Rattle.std.specs.Option.{option_map}
use Rattle.guest_machine.specs.declared.stepped.Stepped.{Stepped}
use Rattle.guest_machine.specs.declared.stepped.Stepped.TheVariants.{Faulted, Finished}
use Rattle.guest_machine.specs.Machine.{Hart, MachineState, can_run, registers_of}
use Rattle.guest_machine.specs.Step.{StepResult, step}
use Rattle.guest_machine.specs.Sound.{IsSoundMachine, OfEachPc}
use Rattle.guest_machine.specs.Waking.{with_answer, woken}

-- these events, in order, may follow the past, one after another
abbrev pub EachFollows : List Event → List Event → Type 0
EachFollows [] past = Unit {0}
EachFollows (e ∷ events) past = MayFollow e past × EachFollows events (e ∷ past)

-- the machine's threads are those that live after the past, and no number above the last one given has started
pub record MachineStandsFor (m : MachineState) (past : List Event) : Type 0 where
  pub same_threads : map (λ h. h.0) m.harts ≡ map (λ t. t.tid) m.kernel.threads
  pub rising : RisesTo 0 m.kernel.threads m.kernel.last_tid
  pub live : (tid : ℕ) → is_live past tid ≡ lives m.kernel tid
  pub started : greatest_start past ≤ m.kernel.last_tid

-- the events may follow the past, and the machine stands for the past with them
abbrev pub Continues : MachineState → List Event → List Event → Type 0
Continues m events past = EachFollows events past × MachineStandsFor m (reverse events ++ past)

-- so it is after each step of a thread that can run
abbrev pub EveryStepContinues : Type 0
EveryStepContinues =
    (m : MachineState) (tid : ℕ) (past : List Event) → MachineStandsFor m past → can_run m tid ≡ true
    → Continues (step m tid).machine (step m tid).events past

-- The events of a step weigh at most 65540, less one for each thread that it adds and more one for each that it ends. So
-- those of many steps weigh at most as much for each, and one for each thread at first.
abbrev pub EveryStepIsLight : Type 0
EveryStepIsLight =
    (m : MachineState) (tid : ℕ) → weight (step m tid).events + length (step m tid).machine.harts ≤ 65540 + length m.harts

-- The events are none; or they begin with the thread's step, which is the only one, and are few and read few words.
abbrev pub IsOnePart : ℕ → List Event → Type 0
IsOnePart tid [] = Unit {0}
IsOnePart tid (e ∷ events) = (e ≡ Step tid) × (steps events ≡ 0) × IsShort (e ∷ events)

-- So are those of each step where no more threads live than can.
abbrev pub EveryStepIsOnePart : Type 0
EveryStepIsOnePart = (m : MachineState) (tid : ℕ) → length m.harts ≤ THREADS → IsOnePart tid (step m tid).events

-- no more threads live than can, and the last number given is one of a thread
pub record IsWithinLimits (m : MachineState) : Type 0 where
  pub few : length m.harts ≤ THREADS
  pub last : m.kernel.last_tid ≤ LAST_TID

-- So it is after each step, where the kernel's threads are those that have registers.
abbrev pub EveryStepStaysWithinLimits : Type 0
EveryStepStaysWithinLimits =
    (m : MachineState) (tid : ℕ) → map (λ h. h.0) m.harts ≡ map (λ t. t.tid) m.kernel.threads
    → IsWithinLimits m → IsWithinLimits (step m tid).machine

-- Once all that are due are woken, no deadline is due, and a thread can run or no deadline is left.
abbrev pub EveryWakingEnds : Type 0
EveryWakingEnds = (m : MachineState) → IsAwake (woken m).kernel

-- Those are woken whose deadlines have come by then: the later ones stay, in their order. The time is as before, or that of the
-- earliest deadline, where no thread could run and it was ahead.
abbrev pub EveryWakingTakesTheDue : Type 0
EveryWakingTakesTheDue =
    (m : MachineState) → IsState m.kernel → IsOnce m.kernel.deadlines →
    let now = (moved_on m.kernel).time in
    ((woken m).kernel.time ≡ now) × ((woken m).kernel.deadlines ≡ filter (λ d. nat_lt now d.at) m.kernel.deadlines)

-- the answer of the thread's deadline, where that has come
abbrev pub due_answer : List Deadline → ℕ → ℕ → Option ℕ
due_answer deadlines now tid = option_map (λ d. d.answer) (find (λ d. (d.tid == tid) && nat_le d.at now) deadlines)

abbrev pub with_due : Option ℕ → Registers → Registers
with_due None r = r
with_due (Some value) r = with_answer r value

-- Each thread that is woken has its answer in a0; all other registers and the pc stay, and so do those of the other threads.
abbrev pub EveryWakingAnswers : Type 0
EveryWakingAnswers =
    (m : MachineState) → IsSoundMachine m → IsOnce m.kernel.deadlines → (tid : ℕ) →
    registers_of (woken m).harts tid
    ≡ with_due (due_answer m.kernel.deadlines (moved_on m.kernel).time tid) (registers_of m.harts tid)

-- A waking leaves memory, the reservations, the live threads and the numbers given as they are.
pub record KeepsThreads (m new : MachineState) : Type 0 where
  pub memory : new.memory ≡ m.memory
  pub held : new.held ≡ m.held
  pub threads : new.kernel.threads ≡ m.kernel.threads
  pub last : new.kernel.last_tid ≡ m.kernel.last_tid
  pub program_break : new.kernel.program_break ≡ m.kernel.program_break
  pub numbers : map (λ h. h.0) new.harts ≡ map (λ h. h.0) m.harts

abbrev pub EveryWakingKeepsThreads : Type 0
EveryWakingKeepsThreads = (m : MachineState) → KeepsThreads m (woken m)

-- ---- the numbers of a step
-- an address is a number of 32 bits
abbrev pub IsAddress : ℕ → Type 0
IsAddress at = at < 2 ^ 32

-- where a call goes and comes back to, where a return goes and where a thread starts are addresses
abbrev pub TellsAddresses : Event → Type 0
TellsAddresses (Call tid entry back) = IsAddress entry × IsAddress back
TellsAddresses (Ret tid target) = IsAddress target
TellsAddresses (Start tid entry) = IsAddress entry
TellsAddresses e = Unit {0}

-- so is the place of a fault, and the status of an exit is a byte's number
abbrev pub IsToldInRange : Stepped → Type 0
IsToldInRange (Faulted kind at) = IsAddress at
IsToldInRange (Finished status) = status < 2 ^ 8
IsToldInRange outcome = Unit {0}

-- the pc of each thread is an address
abbrev pub HaveAddresses : List Hart → Type 0
HaveAddresses harts = OfEachPc IsAddress harts

-- The pc of each thread is an address, and what the step tells are such numbers.
pub record IsStepInRange (r : StepResult) : Type 0 where
  pub harts : HaveAddresses r.machine.harts
  pub events : AllByRecursion TellsAddresses r.events
  pub outcome : IsToldInRange r.outcome

-- So it is of each step of a machine whose threads have addresses in their pc.
abbrev pub EveryStepIsInRange : Type 0
EveryStepIsInRange = (m : MachineState) (tid : ℕ) → HaveAddresses m.harts → IsStepInRange (step m tid)

-- They have after each waking.
abbrev pub EveryWakingIsInRange : Type 0
EveryWakingIsInRange = (m : MachineState) → HaveAddresses m.harts → HaveAddresses (woken m).harts
