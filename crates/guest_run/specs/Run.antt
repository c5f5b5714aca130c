-- A run, turn by turn: its moves, and how it ended.
use Rattle.std.specs.Prelude.{ℕ, zero, suc, pred, Bool, true, false, if◌then◌else◌, List, [], ◌∷◌, ◌++◌, Option, Some, None}
use Rattle.guest_words.specs.declared.endings.Finish.{Finish}
use Rattle.guest_words.specs.declared.endings.Finish.TheVariants.{Budget, Deadlock, Schedule}
use Rattle.trace_model.specs.declared.event_kinds.Event.{Event}
use Rattle.guest_kernel.specs.declared.channel.Channel.{Channel}
use Rattle.guest_kernel.specs.declared.channel.Channel.TheVariants as channel
use Rattle.thread_sched.specs.declared.entry.Entry.{Entry}
use Rattle.thread_sched.specs.declared.turns.Turn.{Turn}
use Rattle.thread_sched.specs.declared.turns.Turn.TheVariants as turn
use Rattle.thread_sched.specs.TurnRule.{SchedulerState, behind, turn_of}
use Rattle.guest_run.specs.declared.turn_status.TurnStatus.{TurnStatus}
use Rattle.guest_run.specs.declared.turn_status.TurnStatus.TheVariants.{GoesOn, TurnOver, Ends}
use Rattle.guest_run.specs.Machine.{Progress, Machine}

-- A move: one step of a thread, and whether it is the first of its turn.
pub record Move : Type 0 where
  pub opens : Bool
  pub tid : ℕ
  pub events : List Event
  pub out : Option (Channel × List ℕ)

pub record WrittenRun : Type 0 where
  pub moves : List Move
  pub finish : Finish

-- Where a run stands between two moves.
pub record Position (State : Type 0) : Type 0 where
  pub state : State
  -- what the scheduler knows, whose last thread has the present turn
  pub turns : SchedulerState
  -- how many moves that turn has left at most, 0 where it is over
  pub left : ℕ

-- Who moves next: the last thread of a position, in a new turn or not, or no one.
pub data Chosen (State : Type 0) : Type 0 where
  Moves : Bool → Position State → Chosen State
  Stops : Finish → Chosen State

-- by the turn rule's answer in a state
abbrev pub by_turn : {State : Type 0} → SchedulerState → State → Turn → Chosen State
by_turn turns state (turn.Run tid most) =
    Moves true (record { state = state; turns = behind turns (turn.Run tid most); left = most })
by_turn turns state turn.Deadlock = Stops Deadlock
by_turn turns state (turn.Mismatch line) = Stops (Schedule line)

-- the turn rule is asked once all that is due is woken
abbrev pub asked : {State : Type 0} → Machine State → SchedulerState → State → Chosen State
asked machine turns state = by_turn turns state (turn_of turns (machine.ready state))

-- the turn goes on while it has moves left; else the turn rule is asked
abbrev pub chosen_by : {State : Type 0} → Machine State → Position State → ℕ → Chosen State
chosen_by machine at (suc more) = Moves false at
chosen_by machine at zero = asked machine at.turns (machine.wake at.state)

unfoldable pub chosen : {State : Type 0} → Machine State → Position State → Chosen State
chosen machine at = chosen_by machine at at.left

-- the position after a step, with `left` moves left of the turn
abbrev pub position_after : {State : Type 0} → Position State → State → ℕ → Position State
position_after at state left = record { state = state; turns = at.turns; left = left }

abbrev pub with_move : Move → WrittenRun → WrittenRun
with_move move run = record { moves = move ∷ run.moves; finish = run.finish }

-- how a run goes on after a move, by the run from the position after it
abbrev pub by_turn_status : {State : Type 0} → (Position State → WrittenRun) → Move → Position State → State → TurnStatus → WrittenRun
by_turn_status rest move at state GoesOn = with_move move (rest (position_after at state (pred at.left)))
by_turn_status rest move at state TurnOver = with_move move (rest (position_after at state 0))
by_turn_status rest move at state (Ends finish) = record { moves = move ∷ []; finish = finish }

abbrev pub move_of : {State : Type 0} → Bool → ℕ → Progress State → Move
move_of opens tid p = record { opens = opens; tid = tid; events = p.events; out = p.out }

abbrev pub after_step : {State : Type 0} → (Position State → WrittenRun) → Bool → Position State → Progress State → WrittenRun
after_step rest opens at p = by_turn_status rest (move_of opens at.turns.last p) at p.state p.turn_status

abbrev pub go_on : {State : Type 0} → Machine State → (Position State → WrittenRun) → Chosen State → WrittenRun
go_on machine rest (Moves opens at) = after_step rest opens at (machine.step at.state at.turns.last)
go_on machine rest (Stops finish) = record { moves = []; finish = finish }

-- The run from a position on, of at most as many moves as the budget. The budget is looked at before the turn rule.
unfoldable pub run_from : {State : Type 0} → Machine State → ℕ → Position State → WrittenRun
run_from machine zero at = record { moves = []; finish = Budget }
run_from machine (suc more) at = go_on machine (run_from machine more) (chosen machine at)

-- where a run begins: no turn is under way
abbrev pub start : {State : Type 0} → SchedulerState → State → Position State
start turns state = record { state = state; turns = turns; left = 0 }

-- The run from a state, by a scheduler and a budget.
abbrev pub run : {State : Type 0} → Machine State → SchedulerState → ℕ → State → WrittenRun
run machine turns budget state = run_from machine budget (start turns state)

-- the events of moves, in order
abbrev pub events_of : List Move → List Event
events_of [] = []
events_of (move ∷ moves) = move.events ++ events_of moves

-- what goes out on a channel
abbrev pub sent : Channel → Option (Channel × List ℕ) → List ℕ
sent channel.Out (Some (channel.Out, bytes)) = bytes
sent channel.Err (Some (channel.Err, bytes)) = bytes
sent _ _ = []

-- the bytes that moves put on a channel, in order
abbrev pub bytes_on : Channel → List Move → List ℕ
bytes_on on [] = []
bytes_on on (move ∷ moves) = sent on move.out ++ bytes_on on moves

-- how many moves come before the next turn begins
abbrev pub current : List Move → ℕ
current [] = 0
current (move ∷ moves) = if move.opens then 0 else suc (current moves)

-- The recording: for each turn its thread and its number of moves.
abbrev pub recording : List Move → List Entry
recording [] = []
recording (move ∷ moves) =
    if move.opens then record { tid = move.tid; most = suc (current moves) } ∷ recording moves else recording moves
