-- A run under the schedule that is its own recording.
use Rattle.std.proofs.Common.{◌≡◌, ℕ, zero, suc, ◌+◌, Bool, true, false, cond, List, [], ◌∷◌, Option, Some, None, refl, sym, ap, subst, ◌∙◌}
use Rattle.std.specs.Prelude.{◌==◌, pred}
use Rattle.std.specs.List.{list_any}
use Rattle.thread_sched.specs.declared.entry.Entry.{Entry}
use Rattle.thread_sched.specs.declared.turns.Turn.{Turn}
use Rattle.thread_sched.specs.declared.turns.Turn.TheVariants as turn
use Rattle.thread_sched.specs.TurnRule.{SchedulerState, able, behind, next_thread, turn_if, turn_of}
use Rattle.guest_run.specs.declared.turn_status.TurnStatus.{TurnStatus}
use Rattle.guest_run.specs.declared.turn_status.TurnStatus.TheVariants.{GoesOn, TurnOver, Ends}
use Rattle.guest_run.specs.Machine.{Progress, Machine, guest}
use Rattle.guest_run.specs.Run.{Move, Position, Chosen, by_turn, chosen_by, chosen, position_after, with_move, by_turn_status, move_of, after_step, go_on, run_from, run, start, current, recording}
use Rattle.guest_run.specs.Run.Chosen.{Moves, Stops}
use Rattle.guest_run.specs.ObservedRun.{ObservedRun, observed_run}
use Rattle.guest_run.specs.Private.Watched.{watched, with_cut}
use Rattle.guest_run.specs.Laws.{IsNoMismatch, ReplaysRun, ReplaysObserved, scheduler}
use Rattle.guest_run.proofs.Chosen.{Has-turn}
use Rattle.guest_run.proofs.Watched.{observed_is_watched}

-- a scheduler of another quantum, with these entries from this line on
abbrev with_entries : ℕ → ℕ → SchedulerState → List Entry → SchedulerState
with_entries other line turns entries = record { quantum = other; last = turns.last; line = line; entries = entries }

-- where a thread has the turn, it also has it by an entry that names it, for as long as the entry says
turn_of-by_entry : (k : SchedulerState) (other line : ℕ) (rest : List Entry) (live : List (ℕ × Bool)) (t most n : ℕ) →
    turn_of k live ≡ turn.Run t most → turn_of (with_entries other line k (record { tid = t; most = n } ∷ rest)) live ≡ turn.Run t n
turn_of-by_entry k other line rest live t most n e = by (next_thread k.last (able live)) e
  where
    by : (o : Option ℕ) → turn_if k (able live) o ≡ turn.Run t most →
        turn_if (with_entries other line k (record { tid = t; most = n } ∷ rest)) (able live) o ≡ turn.Run t n
    by None first = absurd (cc)
    by (Some next) first = ap (λ b. cond b (turn.Run t n) (turn.Mismatch line)) (Has-turn k live t most e)

-- where no thread can run, none can under another schedule
turn_of-deadlock : (k : SchedulerState) (other line : ℕ) (live : List (ℕ × Bool)) → turn_of k live ≡ turn.Deadlock → turn_of (with_entries other line k []) live ≡ turn.Deadlock
turn_of-deadlock k other line live e = by (next_thread k.last (able live)) k.entries e
  where
    named : (b : Bool) (entry : Entry) → cond b (turn.Run entry.tid entry.most) (turn.Mismatch k.line) ≡ turn.Deadlock → ⊥
    named true entry e = cc
    named false entry e = cc

    by : (o : Option ℕ) (entries : List Entry) → turn_if (record { quantum = k.quantum; last = k.last; line = k.line; entries = entries }) (able live) o ≡ turn.Deadlock →
        turn_if (with_entries other line k []) (able live) o ≡ turn.Deadlock
    by None entries first = refl
    by (Some next) [] first = absurd (cc)
    by (Some next) (entry ∷ more) first = absurd (named (list_any (λ tid. tid == entry.tid) (able live)) entry first)

-- the position of the replay, by what is left of the recorded run
abbrev replay_at : {State : Type 0} → ℕ → ℕ → Position State → List Move → Position State
replay_at other line at moves = record { state = at.state; turns = with_entries other line at.turns (recording moves); left = current moves }

-- what the replay chooses where the recorded run chose this, and then made so many further moves in the turn
ChosenAlike : {State : Type 0} → Machine State → ℕ → Position State → Chosen State → Type 0
ChosenAlike machine other at (Moves true to) =
    (line n : ℕ) (rest : List Entry) →
    chosen machine (record { state = at.state; turns = with_entries other line at.turns (record { tid = to.turns.last; most = n } ∷ rest); left = 0 })
    ≡ Moves true (record { state = to.state; turns = with_entries other (line + 1) to.turns rest; left = n })
ChosenAlike machine other at (Moves false to) = to ≡ at
ChosenAlike machine other at (Stops finish) =
    IsNoMismatch finish → (line : ℕ) →
    chosen machine (record { state = at.state; turns = with_entries other line at.turns []; left = 0 }) ≡ Stops finish

chosen_alike : {State : Type 0} (machine : Machine State) (other : ℕ) (at : Position State) → ChosenAlike machine other at (chosen machine at)
unfolding chosen ChosenAlike
chosen_alike {State} machine other at = by at.left
  where
    turned : (t : Turn) → turn_of at.turns (machine.ready (machine.wake at.state)) ≡ t → ChosenAlike machine other at (by_turn at.turns (machine.wake at.state) t)
    turned (turn.Run tid most) e = λ line n rest.
        ap (by_turn (with_entries other line at.turns (record { tid = tid; most = n } ∷ rest)) (machine.wake at.state)) (turn_of-by_entry at.turns other line rest (machine.ready (machine.wake at.state)) tid most n e)
    turned turn.Deadlock e = λ fine line.
        ap (by_turn (with_entries other line at.turns []) (machine.wake at.state)) (turn_of-deadlock at.turns other line (machine.ready (machine.wake at.state)) e)
    turned (turn.Mismatch bad) e = λ fine line. absurd fine

    by : (left : ℕ) → ChosenAlike machine other at (chosen_by machine at left)
    by zero = turned (turn_of at.turns (machine.ready (machine.wake at.state))) refl
    by (suc more) = refl

-- the position of the replay as it makes a move, by the moves after it
abbrev replay_to : {State : Type 0} → ℕ → Bool → ℕ → Position State → List Move → Position State
replay_to other opens line to tail =
    record { state = to.state; turns = with_entries other (cond opens (line + 1) line) to.turns (recording tail); left = suc (current tail) }

-- after these moves the replay chooses the same, with as many moves left in the turn as the recorded run made
chosen-replay : {State : Type 0} (machine : Machine State) (other : ℕ) (at : Position State) (opens : Bool) (to : Position State) →
    ChosenAlike machine other at (Moves opens to) → (line : ℕ) (p : Progress State) (tail : List Move) →
    chosen machine (replay_at other line at (move_of opens to.turns.last p ∷ tail)) ≡ Moves opens (replay_to other opens line to tail)
unfolding chosen ChosenAlike
chosen-replay {State} machine other at true to alike line p tail = alike line (suc (current tail)) (recording tail)
chosen-replay {State} machine other at false to same line p tail =
    ap (λ (a : Position State). Moves false (record { state = a.state; turns = with_entries other line a.turns (recording tail); left = suc (current tail) })) (sym same)

-- where the turn is over, the next move begins one
pub current-over : {State : Type 0} (machine : Machine State) (fuel : ℕ) (at : Position State) → at.left ≡ 0 → current (run_from machine fuel at).moves ≡ 0
unfolding run_from chosen
current-over machine zero at over = refl
current-over {State} machine (suc more) at over =
    ap (λ left. current (go_on machine (run_from machine more) (chosen_by machine at left)).moves) over
    ∙ turned (turn_of at.turns (machine.ready (machine.wake at.state)))
  where
    moved : (to : Position State) (p : Progress State) (turn_status : TurnStatus) →
        current (by_turn_status (run_from machine more) (move_of true to.turns.last p) to p.state turn_status).moves ≡ 0
    moved to p GoesOn = refl
    moved to p TurnOver = refl
    moved to p (Ends finish) = refl

    turned : (t : Turn) → current (go_on machine (run_from machine more) (by_turn at.turns (machine.wake at.state) t)).moves ≡ 0
    turned (turn.Run tid most) =
        moved (record { state = machine.wake at.state; turns = behind at.turns (turn.Run tid most); left = most }) (machine.step (machine.wake at.state) tid) _
    turned turn.Deadlock = refl
    turned (turn.Mismatch line) = refl

-- What is left of a run replays, from any position with these moves as its schedule.
Follows : {State : Type 0} → Machine State → ℕ → ℕ → Type 0
Follows {State} machine other fuel =
    (at : Position State) (line : ℕ) →
    IsNoMismatch (run_from machine fuel at).finish →
    run_from machine fuel (replay_at other line at (run_from machine fuel at).moves) ≡ run_from machine fuel at

-- after the move
follows-status : {State : Type 0} (machine : Machine State) (other more : ℕ) → Follows machine other more →
    (at : Position State) (opens : Bool) (to : Position State) → ChosenAlike machine other at (Moves opens to) →
    (line : ℕ) (p : Progress State) → machine.step to.state to.turns.last ≡ p → (turn_status : TurnStatus) → p.turn_status ≡ turn_status →
    let whole = by_turn_status (run_from machine more) (move_of opens to.turns.last p) to p.state turn_status in
    IsNoMismatch whole.finish →
    go_on machine (run_from machine more) (chosen machine (replay_at other line at whole.moves)) ≡ whole
unfolding Follows
follows-status {State} machine other more ih at opens to alike line p same turn_status e fine = by turn_status e fine
  where
    stepping : (tail : List Move) (turn_status : TurnStatus) → p.turn_status ≡ turn_status →
        go_on machine (run_from machine more) (chosen machine (replay_at other line at (move_of opens to.turns.last p ∷ tail)))
        ≡ by_turn_status (run_from machine more) (move_of opens to.turns.last p) (replay_to other opens line to tail) p.state turn_status
    stepping tail turn_status e =
        ap (go_on machine (run_from machine more)) (chosen-replay machine other at opens to alike line p tail)
        ∙ ap (after_step (run_from machine more) opens (replay_to other opens line to tail)) same
        ∙ ap (by_turn_status (run_from machine more) (move_of opens to.turns.last p) (replay_to other opens line to tail) p.state) e

    by : (turn_status : TurnStatus) → p.turn_status ≡ turn_status →
        IsNoMismatch (by_turn_status (run_from machine more) (move_of opens to.turns.last p) to p.state turn_status).finish →
        go_on machine (run_from machine more) (chosen machine (replay_at other line at (by_turn_status (run_from machine more) (move_of opens to.turns.last p) to p.state turn_status).moves))
        ≡ by_turn_status (run_from machine more) (move_of opens to.turns.last p) to p.state turn_status
    by GoesOn e fine =
        let next = position_after to p.state (pred to.left) in
        stepping (run_from machine more next).moves GoesOn e
        ∙ ap (with_move (move_of opens to.turns.last p)) (ih next (cond opens (line + 1) line) fine)
    by TurnOver e fine =
        let next = position_after to p.state 0 in
        let tail = (run_from machine more next).moves in
        stepping tail TurnOver e
        ∙ ap (λ left. with_move (move_of opens to.turns.last p) (run_from machine more (record { state = p.state; turns = with_entries other (cond opens (line + 1) line) to.turns (recording tail); left = left }))) (sym (current-over machine more next refl))
        ∙ ap (with_move (move_of opens to.turns.last p)) (ih next (cond opens (line + 1) line) fine)
    by (Ends finish) e fine = stepping [] (Ends finish) e

-- by what the recorded run chose
follows-chosen : {State : Type 0} (machine : Machine State) (other more : ℕ) → Follows machine other more →
    (at : Position State) (c : Chosen State) → ChosenAlike machine other at c → (line : ℕ) →
    let whole = go_on machine (run_from machine more) c in
    IsNoMismatch whole.finish →
    go_on machine (run_from machine more) (chosen machine (replay_at other line at whole.moves)) ≡ whole
unfolding ChosenAlike
follows-chosen machine other more ih at (Moves opens to) alike line fine =
    follows-status machine other more ih at opens to alike line (machine.step to.state to.turns.last) refl _ refl fine
follows-chosen machine other more ih at (Stops finish) alike line fine =
    ap (go_on machine (run_from machine more)) (alike fine line)

follows : {State : Type 0} (machine : Machine State) (other fuel : ℕ) → Follows machine other fuel
unfolding run_from Follows
follows machine other zero = λ at line fine. refl
follows machine other (suc more) = λ at line fine.
    follows-chosen machine other more (follows machine other more) at _ (chosen_alike machine other at) line fine

-- A run is the same under its own recording. It begins with no turn, so no move comes before the first turn.
pub replays_run : {State : Type 0} (machine : Machine State) → ReplaysRun machine
unfolding Follows
replays_run {State} machine quantum other budget schedule state fine =
    let at : Position State = start (scheduler quantum schedule) state in
    let moves = (run_from machine budget at).moves in
    ap (λ left. run_from machine budget (record { state = state; turns = scheduler other (recording moves); left = left })) (sym (current-over machine budget at refl))
    ∙ follows machine other budget at 1 fine

pub replays_observed : ReplaysObserved
replays_observed fits past quantum other budget schedule state closed passed fine =
    let first = observed_run fits past (run guest (scheduler quantum schedule) budget state) in
    let seen = run (watched fits guest) (scheduler quantum schedule) budget (past, state) in
    let same : first ≡ with_cut fits past seen = observed_is_watched guest fits closed past (scheduler quantum schedule) budget state passed in
    let moves : first.moves ≡ seen.moves = ap (λ (r : ObservedRun). r.moves) same in
    let ended : first.finish ≡ seen.finish = ap (λ (r : ObservedRun). r.finish) same in
    observed_is_watched guest fits closed past (scheduler other (recording first.moves)) budget state passed
    ∙ ap (λ ms. with_cut fits past (run (watched fits guest) (scheduler other (recording ms)) budget (past, state))) moves
    ∙ ap (with_cut fits past) (replays_run (watched fits guest) quantum other budget schedule (past, state) (subst IsNoMismatch ended fine))
    ∙ sym same
