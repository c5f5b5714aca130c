-- The laws of a run by turns.
use Rattle.std.specs.Prelude.{◌≡◌, ◌↔◌, ℕ, ◌+◌, ◌≤◌, Bool, true, false, List, ◌++◌, length, reverse, sum_by}
use Rattle.std.specs.List.{All}
use Rattle.guest_words.specs.declared.endings.Finish.{Finish}
use Rattle.guest_words.specs.declared.endings.Finish.TheVariants.{Fault, Budget, Deep, Schedule}
use Rattle.trace_model.specs.declared.event_kinds.Event.{Event}
use Rattle.trace_model.specs.Cut.{IsPrefixClosed, past_after}
use Rattle.trace_model.specs.Profile.{steps}
use Rattle.thread_sched.specs.declared.entry.Entry.{Entry}
use Rattle.thread_sched.specs.TurnRule.{SchedulerState}
use Rattle.guest_machine.specs.Machine.{MachineState}
use Rattle.guest_run.specs.Machine.{Machine, guest}
use Rattle.guest_run.specs.Run.{WrittenRun, events_of, recording, run}
use Rattle.guest_run.specs.ObservedRun.{observed_run}

-- what a scheduler knows before the first turn
abbrev pub scheduler : ℕ → List Entry → SchedulerState
scheduler quantum schedule = record { quantum = quantum; last = 0; line = 1; entries = schedule }

-- the run did not end at an entry of its schedule
abbrev pub IsNoMismatch : Finish → Type 0
IsNoMismatch (Schedule line) = ⊥
IsNoMismatch _ = Unit {0}

-- A run is the same under the schedule that is its own recording, and under any quantum, as the recording has all its
-- turns; unless it ended at an entry of its schedule.
abbrev pub ReplaysRun : {State : Type 0} → Machine State → Type 0
ReplaysRun {State} machine =
    (quantum other budget : ℕ) (schedule : List Entry) (state : State) →
    let first = run machine (scheduler quantum schedule) budget state in
    IsNoMismatch first.finish → run machine (scheduler other (recording first.moves)) budget state ≡ first

-- So is an observed run of the guest, whatever fits its observer, where the past before its first move does.
abbrev pub ReplaysObserved : Type 0
ReplaysObserved =
    (fits : List Event → Bool) (past : List Event) (quantum other budget : ℕ) (schedule : List Entry) (state : MachineState) →
    IsPrefixClosed fits → fits past ≡ true →
    let first = observed_run fits past (run guest (scheduler quantum schedule) budget state) in
    IsNoMismatch first.finish →
    observed_run fits past (run guest (scheduler other (recording first.moves)) budget state) ≡ first

-- A run has at most as many moves as its budget.
abbrev pub StaysWithin : {State : Type 0} → Machine State → Type 0
StaysWithin {State} machine = (turns : SchedulerState) (budget : ℕ) (state : State) → length (run machine turns budget state).moves ≤ budget

-- A run that ends for its budget has made as many moves.
abbrev pub SpendsBudget : {State : Type 0} → Machine State → Type 0
SpendsBudget {State} machine =
    (turns : SchedulerState) (budget : ℕ) (state : State) →
    (run machine turns budget state).finish ≡ Budget → length (run machine turns budget state).moves ≡ budget

-- Each turn of a recording has a move and at most as many as the budget, and all together have the moves of the run.
pub record TurnsHaveMoves (recorded : List Entry) (moves budget : ℕ) : Type 0 where
  pub each : All (λ (entry : Entry). (1 ≤ entry.most) × (entry.most ≤ budget)) recorded
  pub all : sum_by (λ (entry : Entry). entry.most) recorded ≡ moves

abbrev pub RecordsTurns : {State : Type 0} → Machine State → Type 0
RecordsTurns {State} machine =
    (turns : SchedulerState) (budget : ℕ) (state : State) →
    let whole = run machine turns budget state in
    TurnsHaveMoves (recording whole.moves) (length whole.moves) budget

-- So it is of what is observed of a run of the guest.
abbrev pub RecordsObservedTurns : Type 0
RecordsObservedTurns =
    (fits : List Event → Bool) (past : List Event) (turns : SchedulerState) (budget : ℕ) (state : MachineState) →
    let part = observed_run fits past (run guest turns budget state) in
    TurnsHaveMoves (recording part.moves) (length part.moves) budget

-- the first list is what the second begins with
abbrev pub IsPrefix : {X : Type 0} → List X → List X → Type 0
IsPrefix {X} xs ys = (rest : List X) × (xs ++ rest ≡ ys)

-- What is observed of a run is a first part of it. A run whose whole past fits is observed whole, and any other ends with
-- `Deep`.
pub record IsProfileOf (fits : List Event → Bool) (past : List Event) (whole : WrittenRun) : Type 0 where
  pub moves : IsPrefix (observed_run fits past whole).moves whole.moves
  pub passed : fits (past_after past (events_of whole.moves)) ≡ true →
      observed_run fits past whole ≡ record { moves = whole.moves; past = past_after past (events_of whole.moves); finish = whole.finish }
  pub failed : fits (past_after past (events_of whole.moves)) ≡ false → (observed_run fits past whole).finish ≡ Deep

abbrev pub ObservesPart : Type 0
ObservesPart = (fits : List Event → Bool) (past : List Event) (whole : WrittenRun) → IsPrefixClosed fits → IsProfileOf fits past whole

-- The observed run of the guest ends `Deep` exactly where the past of the whole run does not fit; no run ends so by itself.
abbrev pub EndsDeepExactly : Type 0
EndsDeepExactly =
    (fits : List Event → Bool) (past : List Event) (turns : SchedulerState) (budget : ℕ) (state : MachineState) → IsPrefixClosed fits →
    let whole = run guest turns budget state in
    ((observed_run fits past whole).finish ≡ Deep) ↔ (fits (past_after past (events_of whole.moves)) ≡ false)

-- the move that faults
abbrev pub faults : Finish → ℕ
faults (Fault kind tid at) = 1
faults _ = 0

-- A run of the guest has a step for each move, but for the one that faults.
abbrev pub CountsSteps : Type 0
CountsSteps =
    (turns : SchedulerState) (budget : ℕ) (state : MachineState) →
    let whole = run guest turns budget state in
    steps (reverse (events_of whole.moves)) + faults whole.finish ≡ length whole.moves

-- So what is observed of it has at most as many steps as its budget, beside those of the past before it.
abbrev pub StepsWithin : Type 0
StepsWithin =
    (fits : List Event → Bool) (past : List Event) (turns : SchedulerState) (budget : ℕ) (state : MachineState) →
    steps (observed_run fits past (run guest turns budget state)).past ≤ steps past + budget
