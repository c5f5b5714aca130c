-- A run that goes on, as the program makes it.
use Rattle.std.specs.Prelude.{◌≡◌, ℕ, suc, ◌+◌, ◌-◌, ◌<◌, ◌≤◌, Bool, true, List, [], ◌∷◌, ◌++◌, length, Option, Some, None, Result, Ok, Err, All}
use Rattle.guest_words.specs.declared.limits.TheConstants.{RUN_STEPS}
use Rattle.guest_words.specs.declared.endings.Finish.{Finish}
use Rattle.trace_model.specs.declared.event_kinds.Event.{Event}
use Rattle.trace_model.specs.Cut.{past_after}
use Rattle.trace_model.specs.Parts.{IsShort, parts}
use Rattle.trace_model.specs.Profile.{steps}
use Rattle.trace_model.specs.WellFormed.{IsWellFormed}
use Rattle.thread_sched.specs.TurnRule.{SchedulerState}
use Rattle.guest_machine.specs.Kept.{Parts, machine_of}
use Rattle.guest_machine.specs.Laws.{IsWithinLimits, MachineStandsFor}
use Rattle.guest_machine.specs.Machine.{MachineState}
use Rattle.guest_machine.specs.Running.{after_steps}
use Rattle.guest_run.specs.declared.run.Runner.{Runner}
use Rattle.std.specs.declared.ops.ControlFlow.{ControlFlow}
use Rattle.std.specs.declared.ops.ControlFlow.TheVariants.{Continue, Break}
use Rattle.guest_run.specs.declared.run_error.RunError.{RunError}
use Rattle.guest_run.specs.declared.run_error.RunError.TheVariants.{CannotPut, Memory}
use Rattle.guest_run.specs.declared.turns.CurrentTurn.{CurrentTurn}
use Rattle.guest_run.specs.declared.turns.Recorder.{Recorder}
use Rattle.guest_run.specs.Private.CurrentTurn.{IsUnderWay, position, recorded}
use Rattle.guest_run.specs.Machine.{guest}
use Rattle.guest_run.specs.Output.{Sinks, with_output}
use Rattle.guest_run.specs.ObservedRun.{ObservedRun, observed_run}
use Rattle.guest_run.specs.Run.{Move, Position, WrittenRun, events_of, recording, run_from}
use Rattle.guest_run.specs.RunEnds.{IsGivenUp, RunEnds, StopsAtPut}

-- a run after these moves
abbrev pub with_moves : List Move → WrittenRun → WrittenRun
with_moves moves run = record { moves = moves ++ run.moves; finish = run.finish }

-- The run from one position on makes these moves, and is then the run from the other.
abbrev pub Leads : Position MachineState → List Move → Position MachineState → Type 0
Leads start moves at = (n : ℕ) → run_from guest (length moves + n) start ≡ with_moves moves (run_from guest n at)

-- The past is one of the machine: its threads are those that live after it, it is well formed, and each of its parts is short.
pub record IsPastOf (past : List Event) (m : MachineState) : Type 0 where
  pub threads : MachineStandsFor m past
  pub limits : IsWithinLimits m
  pub formed : IsWellFormed past
  pub short : All IsShort (parts past)

-- the past after moves
abbrev pub past_by : List Event → List Move → List Event
past_by first moves = past_after first (events_of moves)

-- Where a run stands: the state of its machine, the present turn and the recording so far.
pub record Standing : Type 0 where
  pub state : MachineState
  pub turn : CurrentTurn
  pub recorder : Recorder

abbrev pub standing_of : Runner → Standing
standing_of r = record { state = machine_of r.stepper.machine; turn = r.turn; recorder = r.recorder }

-- The run that began there made these moves so far; the observer has their events, which fit; the recording has their turns;
-- and the thread whose turn goes on can run, as it made a move of it.
pub record IsGoing {W : Type 0} (Stands : W → List Event → Type 0) (fits : List Event → Bool) (first : List Event)
    (start : Position MachineState) (moves : List Move) (r : Standing) (observer : W) : Type 0 where
  pub leads : Leads start moves (position r.state r.turn)
  pub stands : Stands observer (past_by first moves)
  pub fitting : fits (past_by first moves) ≡ true
  pub past : IsPastOf (past_by first moves) r.state
  pub few_steps : steps (past_by first moves) ≤ length moves
  pub turns : (rest : List Move) → recorded r.recorder rest ≡ recording (moves ++ rest)
  pub made : r.recorder.made ≤ length moves
  pub way : 0 < r.turn.left → IsUnderWay r.state r.turn
  pub began : 0 < r.turn.left → 0 < r.recorder.made

-- No move was made.
pub record IsNewRunner (machine : Parts) (turns : SchedulerState) (r : Runner) : Type 0 where
  pub machine_is : r.stepper.machine ≡ machine
  pub scheduler : r.turn.scheduler ≡ turns
  pub left : r.turn.left ≡ 0
  pub recorded_none : r.recorder.turns ≡ []
  pub made : r.recorder.made ≡ 0

-- The run may make one more move.
pub record MayAdvance {W : Type 0} (Stands : W → List Event → Type 0) (fits : List Event → Bool) (r : Standing) (observer : W) : Type 0 where
  pub first : List Event
  pub start : Position MachineState
  pub moves : List Move
  pub going : IsGoing Stands fits first start moves r observer
  pub room : length moves < RUN_STEPS

-- what is observed of the run with at most `n` moves
abbrev pub observed : (List Event → Bool) → List Event → Position MachineState → ℕ → ObservedRun
observed fits first start n = observed_run fits first (run_from guest n start)

-- `count` moves were made, and the run goes on.
pub record Remains {W : Type 0} (Stands : W → List Event → Type 0) (fits : List Event → Bool) (first : List Event) (start : Position MachineState)
    (before : Sinks) (count : ℕ) (r : Standing) (observer : W) (now : Sinks) : Type 0 where
  pub moves : List Move
  pub going : IsGoing Stands fits first start moves r observer
  pub output : now ≡ with_output moves before
  pub count_is : length moves ≡ count

-- `count` moves of some run were made, and it goes on.
pub record RemainsSome {W : Type 0} (Stands : W → List Event → Type 0) (fits : List Event → Bool) (count : ℕ) (r : Standing) (observer : W) (now : Sinks) : Type 0 where
  pub first : List Event
  pub start : Position MachineState
  pub before : Sinks
  pub remains : Remains Stands fits first start before count r observer now

-- One more move was made, and the run goes on.
pub record GoesOn {W : Type 0} (Stands : W → List Event → Type 0) (fits : List Event → Bool) (first : List Event)
    (start : Position MachineState) (moves : List Move) (before : Sinks) (r : Standing) (observer : W) (after : Sinks) : Type 0 where
  pub move : Move
  pub going : IsGoing Stands fits first start (moves ++ move ∷ []) r observer
  pub output : after ≡ with_output (moves ++ move ∷ []) before

-- This is all that is observed of the run.
pub record IsOver {W : Type 0} (Stands : W → List Event → Type 0) (p : ObservedRun) (before : Sinks) (r : Standing) (observer : W) (after : Sinks) (finish : Finish) : Type 0 where
  pub past : Stands observer p.past
  pub output : after ≡ with_output p.moves before
  pub turns : recorded r.recorder [] ≡ recording p.moves
  pub finish_is : p.finish ≡ finish

-- How a run goes on that made these moves so far: by one more move, to its end, or not, because a put failed or memory ran out.
abbrev pub Advances : {W : Type 0} → (W → List Event → Type 0) → (List Event → Bool) → List Event → Position MachineState → List Move → Sinks →
    Standing → W → Sinks → Result (Option Finish) RunError → Type 0
Advances Stands fits first start moves before r observer after (Ok None) = GoesOn Stands fits first start moves before r observer after
Advances Stands fits first start moves before r observer after (Ok (Some finish)) =
    (n : ℕ) → IsOver Stands (observed fits first start (length moves + suc n)) before r observer after finish
Advances Stands fits first start moves before r observer after (Err (CannotPut channel)) =
    (n : ℕ) → StopsAtPut channel (observed fits first start (length moves + suc n)).moves before after
Advances Stands fits first start moves before r observer after (Err Memory) =
    (n : ℕ) → IsGivenUp (observed fits first start (length moves + suc n)).moves before after

-- Whatever moves a run made that goes on, it advances by one more.
abbrev pub MakesAMove : {W : Type 0} → (W → List Event → Type 0) → (List Event → Bool) → Standing → W → Sinks →
    Standing → W → Sinks → Result (Option Finish) RunError → Type 0
MakesAMove Stands fits old observed now new observer after result =
    (first : List Event) (start : Position MachineState) (moves : List Move) (before : Sinks)
    → IsGoing Stands fits first start moves old observed → length moves < RUN_STEPS → now ≡ with_output moves before
    → Advances Stands fits first start moves before new observer after result

-- where it stands after `n` further moves of its turn
abbrev pub moved : Standing → ℕ → Standing
moved s n = record {
  state = after_steps s.state s.turn.tid n;
  turn = record s.turn { left = s.turn.left - n };
  recorder = record s.recorder { made = s.recorder.made + n };
}

-- How a run goes on with moves of a turn: it remains after some moves in all, or its budget shows how it ended or why it was
-- given up.
abbrev pub TurnEnds : {W : Type 0} → (W → List Event → Type 0) → (List Event → Bool) → List Event → Position MachineState → Sinks → ℕ →
    Standing → W → Sinks → Result (ControlFlow Finish ℕ) RunError → Type 0
TurnEnds Stands fits first start before budget r observer after (Ok (Continue count)) = Remains Stands fits first start before count r observer after
TurnEnds Stands fits first start before budget r observer after (Ok (Break finish)) =
    IsOver Stands (observed fits first start budget) before r observer after finish
TurnEnds Stands fits first start before budget r observer after (Err e) =
    RunEnds Stands (observed fits first start budget) before observer after (Err e)

-- Whatever run remains after `made` moves, it goes on so with moves of a turn.
abbrev pub MakesMoves : {W : Type 0} → (W → List Event → Type 0) → (List Event → Bool) → ℕ → ℕ → Standing → W → Sinks →
    Standing → W → Sinks → Result (ControlFlow Finish ℕ) RunError → Type 0
MakesMoves Stands fits made budget old observed now new observer after result =
    (first : List Event) (start : Position MachineState) (before : Sinks)
    → Remains Stands fits first start before made old observed now
    → TurnEnds Stands fits first start before budget new observer after result

-- if the run goes on, no fewer moves were made than before, and no more than the budget
abbrev pub IsCounted : ℕ → ℕ → Result (ControlFlow Finish ℕ) RunError → Type 0
IsCounted made budget (Ok (Continue count)) = (made ≤ count) × (count ≤ budget)
IsCounted made budget other = Unit {0}
