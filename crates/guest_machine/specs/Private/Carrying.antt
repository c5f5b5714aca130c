-- Steps of a thread on its registers, the memory and the reservations alone.
use Rattle.std.specs.Prelude.{◌≡◌, ℕ, ◌+◌, Bool, true, List, ◌∷◌, ◌++◌, None}
use Rattle.rv_isa.specs.declared.instruction.Instr.{Instr}
use Rattle.rv_exec.specs.Effects.{ExecState, effect, linked, on_registers}
use Rattle.rv_exec.specs.Registers.{Registers}
use Rattle.call_tracker.specs.Links.{kind_of}
use Rattle.call_tracker.specs.declared.jumps.JumpKind.{JumpKind}
use Rattle.trace_model.specs.declared.event_kinds.Event.{Event}
use Rattle.trace_model.specs.declared.event_kinds.Event.TheVariants.{Step}
use Rattle.trace_model.specs.declared.observer.Observed.{Observed}
use Rattle.guest_kernel.specs.Kernel.{later_by}
use Rattle.guest_machine.specs.declared.stepped.Advanced.{Advanced}
use Rattle.guest_machine.specs.declared.stepped.Stepped.TheVariants.{Went}
use Rattle.guest_machine.specs.Machine.{MachineState, can_run, later}
use Rattle.guest_machine.specs.Running.{AllGoOn, MayTakeSteps, ObservesSteps, after_steps, events_of_steps}
use Rattle.guest_machine.specs.Sound.{IsSoundMachine}
use Rattle.guest_machine.specs.Told.{done_by}
use Rattle.guest_machine.specs.Step.{StepResult, exec_state_of, step, with_exec_state}

-- It is what a thread of a sound machine, which can run, works on.
pub record IsStateOf (c : ExecState) (tid : ℕ) (m : MachineState) : Type 0 where
  pub state : exec_state_of m tid ≡ c
  pub sound : IsSoundMachine m
  pub able : can_run m tid ≡ true

-- the machine `n` steps later, whose thread has this state
abbrev pub carried : MachineState → ℕ → ExecState → ℕ → MachineState
carried m tid c n = with_exec_state (record m { kernel = later_by n m.kernel }) tid c

-- an instruction went that left this state
abbrev pub went_to : MachineState → ℕ → ExecState → List Event → StepResult
went_to m tid c events = record { machine = with_exec_state (later m) tid c; events = events; out = None; outcome = Went }

-- The thread's step is an instruction that went and left this state, with these events.
pub record StepsTo (m : MachineState) (tid : ℕ) (c : ExecState) (events : List Event) : Type 0 where
  pub is : step m tid ≡ went_to m tid c events
  pub of : IsStateOf c tid (with_exec_state (later m) tid c)

-- On whatever machine the thread works on the old state, its step is an instruction that went, did this and left the new one.
abbrev pub IsStepOf : ExecState → ExecState → ℕ → Advanced → Type 0
IsStepOf old new tid advanced = (m : MachineState) → IsStateOf old tid m → StepsTo m tid new (Step tid ∷ done_by tid advanced)

-- The instruction jumps to the target, with its return address in rd. By its link registers it is a call, a return, both or neither.
pub record JumpsTo (i : Instr) (r : Registers) (rd target : ℕ) (jump : JumpKind) : Type 0 where
  pub does : (tid : ℕ) (c : ExecState) → c.registers ≡ r → effect tid i c ≡ on_registers c (linked rd target c.registers)
  pub kind : kind_of i ≡ jump

-- `count` steps left this state, after each of which the thread goes on.
pub record Carries (m : MachineState) (tid : ℕ) (c : ExecState) (count : ℕ) : Type 0 where
  pub all : AllGoOn m tid count
  pub machine : carried m tid c count ≡ after_steps m tid count
  pub of : IsStateOf c tid (after_steps m tid count)

-- On whatever machine the thread works on the state, that many steps of it were observed.
abbrev pub ObservesFrom : {O : Type 0} → (O → List Event → Type 0) → (List Event → Bool) → ExecState → ℕ → O → O → ℕ → Observed → Type 0
ObservesFrom Stands fits c tid old new count observed =
    (m : MachineState) → IsStateOf c tid m → ObservesSteps Stands fits m tid old new count observed

-- After `n` steps `more` further ones left this state, with these events.
pub record GoesWith (m : MachineState) (tid n : ℕ) (c : ExecState) (more : ℕ) (events : List Event) : Type 0 where
  pub carries : Carries m tid c (n + more)
  pub told : events_of_steps m tid (n + more) ≡ events_of_steps m tid n ++ events

-- It is what a thread of some machine works on, of whose steps at most `most` may be observed.
pub record MayCarry {O : Type 0} (Stands : O → List Event → Type 0) (fits : List Event → Bool) (o : O) (c : ExecState) (tid most : ℕ) : Type 0 where
  pub machine : MachineState
  pub of : IsStateOf c tid machine
  pub next : MayTakeSteps Stands fits o machine tid most
