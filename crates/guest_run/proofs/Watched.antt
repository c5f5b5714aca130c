-- An observed run is the run of the watched machine.
use Rattle.std.proofs.Common.{◌≡◌, ℕ, zero, suc, Bool, true, false, cond, List, [], ◌∷◌, ◌++◌, reverse, refl, sym, ap, ◌∙◌}
use Rattle.std.specs.Prelude.{pred}
use Rattle.guest_words.specs.declared.endings.Finish.{Finish}
use Rattle.guest_words.specs.declared.endings.Finish.TheVariants.{Deep}
use Rattle.trace_model.specs.declared.event_kinds.Event.{Event}
use Rattle.trace_model.specs.Cut.{IsPrefixClosed, cut, past_after}
use Rattle.trace_model.proofs.Cut.{cut-earlier, fits-earlier, past_after-append}
use Rattle.thread_sched.specs.declared.turns.Turn.{Turn}
use Rattle.thread_sched.specs.declared.turns.Turn.TheVariants as turn
use Rattle.thread_sched.specs.TurnRule.{SchedulerState, turn_of}
use Rattle.guest_run.specs.declared.turn_status.TurnStatus.{TurnStatus}
use Rattle.guest_run.specs.declared.turn_status.TurnStatus.TheVariants.{GoesOn, TurnOver, Ends}
use Rattle.guest_run.specs.Machine.{Progress, Machine}
use Rattle.guest_run.specs.Run.{Move, WrittenRun, Position, Chosen, by_turn, chosen_by, chosen, position_after, with_move, by_turn_status, move_of, after_step, go_on, run_from, run, start, events_of}
use Rattle.guest_run.specs.Run.Chosen.{Moves, Stops}
use Rattle.guest_run.specs.ObservedRun.{moves_kept, ObservedRun, observed_run}
use Rattle.guest_run.specs.Private.Watched.{watched_step, watched, with_cut}

abbrev pub with_past : {State : Type 0} → List Event → Position State → Position (List Event × State)
with_past past at = record { state = (past, at.state); turns = at.turns; left = at.left }

abbrev pub chosen_with : {State : Type 0} → List Event → Chosen State → Chosen (List Event × State)
chosen_with past (Moves opens to) = Moves opens (with_past past to)
chosen_with past (Stops finish) = Stops finish

-- a watched machine chooses as the machine does
pub chosen-watched : {State : Type 0} (fits : List Event → Bool) (machine : Machine State) (past : List Event) (at : Position State) →
    chosen (watched fits machine) (with_past past at) ≡ chosen_with past (chosen machine at)
unfolding chosen
chosen-watched {State} fits machine past at = by at.left
  where
    turned : (turn : Turn) → by_turn at.turns (past, machine.wake at.state) turn ≡ chosen_with past (by_turn at.turns (machine.wake at.state) turn)
    turned (turn.Run tid most) = refl
    turned turn.Deadlock = refl
    turned (turn.Mismatch line) = refl

    by : (left : ℕ) → chosen_by (watched fits machine) (with_past past at) left ≡ chosen_with past (chosen_by machine at left)
    by zero = turned (turn_of at.turns (machine.ready (machine.wake at.state)))
    by (suc more) = refl

-- a run's moves and end as they are observed
abbrev kept : (List Event → Bool) → List Event → WrittenRun → WrittenRun
kept fits past run = record {
  moves = moves_kept fits past run.moves;
  finish = cond (fits (past_after past (events_of run.moves))) run.finish Deep;
}

-- the cut of the moves that are kept is the cut of all
cut-kept : (fits : List Event → Bool) → IsPrefixClosed fits → (past : List Event) (moves : List Move) →
    cut fits (past_after past (events_of moves)) ≡ cut fits (past_after past (events_of (moves_kept fits past moves)))
cut-kept fits closed past [] = refl
cut-kept fits closed past (move ∷ moves) =
    ap (cut fits) (past_after-append past move.events (events_of moves))
    ∙ by (fits next) refl (cut-kept fits closed next moves)
    ∙ sym (ap (cut fits) (past_after-append past move.events (events_of (cond (fits next) (moves_kept fits next moves) []))))
  where
    next : List Event
    next = past_after past move.events

    by : (b : Bool) → fits (past_after past move.events) ≡ b →
        cut fits (past_after (past_after past move.events) (events_of moves)) ≡ cut fits (past_after (past_after past move.events) (events_of (moves_kept fits (past_after past move.events) moves))) →
        cut fits (past_after (past_after past move.events) (events_of moves)) ≡ cut fits (past_after (past_after past move.events) (events_of (cond b (moves_kept fits (past_after past move.events) moves) [])))
    by true passed ih = ih
    by false failed ih = cut-earlier fits closed (past_after past move.events) (reverse (events_of moves)) failed

observed_run-kept : (fits : List Event → Bool) → IsPrefixClosed fits → (past : List Event) (run : WrittenRun) → observed_run fits past run ≡ with_cut fits past (kept fits past run)
unfolding observed_run
observed_run-kept fits closed past run =
    ap (λ whole. let p : ObservedRun = record { moves = moves_kept fits past run.moves; past = whole; finish = (kept fits past run).finish } in p) (cut-kept fits closed past run.moves)

abbrev ends_with : List Move → Bool → Finish → WrittenRun
ends_with moves b finish = record { moves = moves; finish = cond b finish Deep }

kept-move : (fits : List Event → Bool) (past : List Event) (move : Move) (run : WrittenRun) →
    fits (past_after past move.events) ≡ true → kept fits past (with_move move run) ≡ with_move move (kept fits (past_after past move.events) run)
kept-move fits past move run passed =
    let next = past_after past move.events in
    ap (λ b. ends_with (move ∷ cond b (moves_kept fits next run.moves) []) (fits (past_after past (move.events ++ events_of run.moves))) run.finish) passed
    ∙ ap (λ whole. ends_with (move ∷ moves_kept fits next run.moves) (fits whole) run.finish) (past_after-append past move.events (events_of run.moves))

kept-last : (fits : List Event → Bool) → IsPrefixClosed fits → (past : List Event) (move : Move) (run : WrittenRun) →
    fits (past_after past move.events) ≡ false → kept fits past (with_move move run) ≡ record { moves = move ∷ []; finish = Deep }
kept-last fits closed past move run failed =
    let next = past_after past move.events in
    ap (λ b. ends_with (move ∷ cond b (moves_kept fits next run.moves) []) (fits (past_after past (move.events ++ events_of run.moves))) run.finish) failed
    ∙ ap (λ whole. ends_with (move ∷ []) (fits whole) run.finish) (past_after-append past move.events (events_of run.moves))
    ∙ ap (λ b. ends_with (move ∷ []) b run.finish) (fits-earlier fits closed next (reverse (events_of run.moves)) failed)

kept-none : (fits : List Event → Bool) (past : List Event) (finish : Finish) → fits past ≡ true →
    kept fits past (record { moves = []; finish = finish }) ≡ record { moves = []; finish = finish }
kept-none fits past finish passed = ap (λ b. ends_with [] b finish) passed

-- what is kept of a run from a position on is the watched machine's run
KeepsWatched : {State : Type 0} → (List Event → Bool) → Machine State → ℕ → Type 0
KeepsWatched {State} fits machine fuel =
    (past : List Event) (at : Position State) → fits past ≡ true →
    kept fits past (run_from machine fuel at) ≡ run_from (watched fits machine) fuel (with_past past at)

keeps-step : {State : Type 0} (fits : List Event → Bool) → IsPrefixClosed fits → (machine : Machine State) (more : ℕ) → KeepsWatched fits machine more →
    (past : List Event) (opens : Bool) (to : Position State) (p : Progress State) →
    kept fits past (after_step (run_from machine more) opens to p)
    ≡ after_step (run_from (watched fits machine) more) opens (with_past past to) (watched_step fits past p)
unfolding KeepsWatched
keeps-step {State} fits closed machine more ih past opens to p = by (fits (past_after past p.events)) refl p.turn_status
  where
    by : (b : Bool) → fits (past_after past p.events) ≡ b → (turn_status : TurnStatus) →
        kept fits past (by_turn_status (run_from machine more) (move_of opens to.turns.last p) to p.state turn_status)
        ≡ by_turn_status (run_from (watched fits machine) more) (move_of opens to.turns.last p) (with_past past to) (past_after past p.events, p.state) (cond b turn_status (Ends Deep))
    by true passed GoesOn =
        kept-move fits past (move_of opens to.turns.last p) _ passed
        ∙ ap (with_move (move_of opens to.turns.last p)) (ih (past_after past p.events) (position_after to p.state (pred to.left)) passed)
    by true passed TurnOver =
        kept-move fits past (move_of opens to.turns.last p) _ passed
        ∙ ap (with_move (move_of opens to.turns.last p)) (ih (past_after past p.events) (position_after to p.state 0) passed)
    by true passed (Ends finish) =
        kept-move fits past (move_of opens to.turns.last p) (record { moves = []; finish = finish }) passed
        ∙ ap (with_move (move_of opens to.turns.last p)) (kept-none fits (past_after past p.events) finish passed)
    by false failed GoesOn = kept-last fits closed past (move_of opens to.turns.last p) _ failed
    by false failed TurnOver = kept-last fits closed past (move_of opens to.turns.last p) _ failed
    by false failed (Ends finish) = kept-last fits closed past (move_of opens to.turns.last p) (record { moves = []; finish = finish }) failed

keeps-chosen : {State : Type 0} (fits : List Event → Bool) → IsPrefixClosed fits → (machine : Machine State) (more : ℕ) → KeepsWatched fits machine more →
    (past : List Event) → fits past ≡ true → (c : Chosen State) →
    kept fits past (go_on machine (run_from machine more) c)
    ≡ go_on (watched fits machine) (run_from (watched fits machine) more) (chosen_with past c)
keeps-chosen fits closed machine more ih past passed (Moves opens to) = keeps-step fits closed machine more ih past opens to (machine.step to.state to.turns.last)
keeps-chosen fits closed machine more ih past passed (Stops finish) = kept-none fits past finish passed

keeps-watched : {State : Type 0} (fits : List Event → Bool) → IsPrefixClosed fits → (machine : Machine State) (fuel : ℕ) → KeepsWatched fits machine fuel
unfolding KeepsWatched run_from
keeps-watched fits closed machine zero = λ past at passed. kept-none fits past _ passed
keeps-watched fits closed machine (suc more) = λ past at passed.
    keeps-chosen fits closed machine more (keeps-watched fits closed machine more) past passed (chosen machine at)
    ∙ ap (go_on (watched fits machine) (run_from (watched fits machine) more)) (sym (chosen-watched fits machine past at))

pub observed_is_watched : {State : Type 0} (machine : Machine State) (fits : List Event → Bool) → IsPrefixClosed fits → (past : List Event) (turns : SchedulerState) (budget : ℕ) (state : State) → fits past ≡ true →
    observed_run fits past (run machine turns budget state) ≡ with_cut fits past (run (watched fits machine) turns budget (past, state))
unfolding KeepsWatched
observed_is_watched machine fits closed past turns budget state passed =
    observed_run-kept fits closed past (run machine turns budget state)
    ∙ ap (with_cut fits past) (keeps-watched fits closed machine budget past (start turns state) passed)
