-- The present turn and the recording so far, as the program keeps them.
use Rattle.std.specs.Prelude.{◌≡◌, ℕ, zero, suc, ◌+◌, true, List, ◌∷◌, ◌++◌}
use Rattle.thread_sched.specs.declared.entry.Entry.{Entry}
use Rattle.guest_machine.specs.Machine.{MachineState, can_run}
use Rattle.guest_run.specs.declared.turns.CurrentTurn.{CurrentTurn}
use Rattle.guest_run.specs.declared.turns.Choice.{Choice}
use Rattle.guest_run.specs.declared.turns.Choice.TheVariants.{Moves, Stops}
use Rattle.guest_run.specs.declared.turns.Recorder.{Recorder}
use Rattle.guest_run.specs.Run.{Move, Position, Chosen, current, recording}

abbrev pub position : {State : Type 0} → State → CurrentTurn → Position State
position state turn = record { state = state; turns = turn.scheduler; left = turn.left }

abbrev pub chosen_of : {State : Type 0} → State → CurrentTurn → Choice → Chosen State
chosen_of state turn (Moves opens) = Chosen.Moves opens (position state turn)
chosen_of state turn (Stops finish) = Chosen.Stops finish

-- the thread that has the turn is the scheduler's last one, and it can run
pub record IsUnderWay (state : MachineState) (turn : CurrentTurn) : Type 0 where
  pub last : turn.tid ≡ turn.scheduler.last
  pub able : can_run state turn.tid ≡ true

-- the present turn with its further moves, and the turns after it
abbrev pub with_present : ℕ → ℕ → ℕ → List Entry → List Entry
with_present tid zero more later = later
with_present tid (suc made) more later = record { tid = tid; most = suc made + more } ∷ later

-- the recording so far, and what these moves add
abbrev pub recorded : Recorder → List Move → List Entry
recorded r moves = r.turns ++ with_present r.tid r.made (current moves) (recording moves)
