-- How many moves a run has, its turns, and what is observed of it.
use Rattle.std.proofs.Common.{◌≡◌, ℕ, zero, suc, ◌+◌, ◌≤◌, Bool, true, false, cond, List, [], ◌∷◌, ◌++◌, length, length-append, reverse, refl, sym, ap, ◌∙◌, inl, inr, arith}
use Rattle.std.specs.Prelude.{sum_by}
use Rattle.std.specs.List.{All}
use Rattle.std.proofs.lemmas.Bool.{cases_Bool, true≢false}
use Rattle.std.proofs.lemmas.List.Elements.{All-cons, All-nil}
use Rattle.std.proofs.lemmas.List.Sums.{sum_by-cons}
use Rattle.guest_words.specs.declared.endings.Finish.{Finish}
use Rattle.guest_words.specs.declared.endings.Finish.TheVariants.{Exit, Fault, Budget, Deadlock, Deep, Schedule}
use Rattle.guest_words.specs.declared.endings.FaultKind.{FaultKind}
use Rattle.trace_model.specs.declared.event_kinds.Event.{Event}
use Rattle.trace_model.specs.Cut.{IsPrefixClosed, past_after}
use Rattle.trace_model.proofs.Cut.{cut-fits, fits-earlier, past_after-append}
use Rattle.thread_sched.specs.declared.entry.Entry.{Entry}
use Rattle.thread_sched.specs.declared.turns.Turn.{Turn}
use Rattle.thread_sched.specs.declared.turns.Turn.TheVariants as turn
use Rattle.thread_sched.specs.TurnRule.{SchedulerState, turn_of}
use Rattle.guest_machine.specs.declared.stepped.Stepped.{Stepped}
use Rattle.guest_machine.specs.declared.stepped.Stepped.TheVariants.{Finished, Faulted}
use Rattle.guest_machine.specs.Machine.{MachineState}
use Rattle.guest_machine.specs.Step.{step}
use Rattle.guest_run.specs.declared.turn_status.TurnStatus.{TurnStatus}
use Rattle.guest_run.specs.declared.turn_status.TurnStatus.TheVariants.{GoesOn, TurnOver, Ends}
use Rattle.guest_run.specs.Machine.{Machine, guest, turn_status_of}
use Rattle.guest_run.specs.Run.{Move, WrittenRun, Position, Chosen, by_turn, chosen_by, chosen, with_move, by_turn_status, move_of, go_on, run_from, run, start, events_of, current, recording}
use Rattle.guest_run.specs.Run.Chosen.{Moves, Stops}
use Rattle.guest_run.specs.ObservedRun.{ObservedRun, moves_kept, observed_run}
use Rattle.guest_run.specs.Laws.{EndsDeepExactly, StaysWithin, SpendsBudget, RecordsObservedTurns, RecordsTurns, IsPrefix, ObservesPart}
use Rattle.guest_run.proofs.Replayed.{current-over}

-- A fact of every run from a position on, by a step: it holds where there is no move, and goes over a move.
pub record Steps {State : Type 0} (machine : Machine State) (Holds : ℕ → WrittenRun → Type 0) : Type 0 where
  pub spent : Holds 0 (record { moves = []; finish = Budget })
  pub stops : (more : ℕ) (at : Position State) (finish : Finish) → chosen machine at ≡ Stops finish → Holds (suc more) (record { moves = []; finish = finish })
  pub ends : (more : ℕ) (opens : Bool) (state : State) (tid : ℕ) (finish : Finish) → (machine.step state tid).turn_status ≡ Ends finish →
      Holds (suc more) (record { moves = move_of opens tid (machine.step state tid) ∷ []; finish = finish })
  pub moves : (more : ℕ) (opens : Bool) (state : State) (tid : ℕ) (run : WrittenRun) → ((finish : Finish) → (machine.step state tid).turn_status ≡ Ends finish → ⊥) → Holds more run → Holds (suc more) (with_move (move_of opens tid (machine.step state tid)) run)

pub each_run : {State : Type 0} (machine : Machine State) (Holds : ℕ → WrittenRun → Type 0) → Steps machine Holds → (fuel : ℕ) (at : Position State) → Holds fuel (run_from machine fuel at)
unfolding run_from
each_run machine Holds steps zero at = steps.spent
each_run {State} machine Holds steps (suc more) at = by (chosen machine at) refl (each_run machine Holds steps more)
  where
    by_status : ((at : Position State) → Holds more (run_from machine more at)) → (opens : Bool) (to : Position State) (turn_status : TurnStatus) → (machine.step to.state to.turns.last).turn_status ≡ turn_status →
        Holds (suc more) (by_turn_status (run_from machine more) (move_of opens to.turns.last (machine.step to.state to.turns.last)) to (machine.step to.state to.turns.last).state turn_status)
    by_status ih opens to GoesOn e = steps.moves more opens to.state to.turns.last _ (λ finish over. absurd (let no : GoesOn ≡ Ends finish = sym e ∙ over in cc)) (ih _)
    by_status ih opens to TurnOver e = steps.moves more opens to.state to.turns.last _ (λ finish over. absurd (let no : TurnOver ≡ Ends finish = sym e ∙ over in cc)) (ih _)
    by_status ih opens to (Ends finish) e = steps.ends more opens to.state to.turns.last finish e

    by : (c : Chosen State) → chosen machine at ≡ c → ((at : Position State) → Holds more (run_from machine more at)) → Holds (suc more) (go_on machine (run_from machine more) c)
    by (Moves opens to) e ih = by_status ih opens to (machine.step to.state to.turns.last).turn_status refl
    by (Stops finish) e ih = steps.stops more at finish e

moves-within : {State : Type 0} (machine : Machine State) (fuel : ℕ) (at : Position State) → length (run_from machine fuel at).moves ≤ fuel
moves-within {State} machine = each_run machine (λ fuel run. length run.moves ≤ fuel) (record {
  spent = omega arith;
  stops = λ more at finish e. omega arith;
  ends = λ more opens state tid finish e. omega arith;
  moves = λ more opens state tid run goes ih. omega (arith, ih);
})

pub stays_within : {State : Type 0} (machine : Machine State) → StaysWithin machine
stays_within machine turns budget state = moves-within machine budget (start turns state)

-- the turn rule ends a run for a deadlock or at an entry of the schedule alone
stops-not : {State : Type 0} (machine : Machine State) (never : Finish) → (never ≡ Deadlock → ⊥) → ((line : ℕ) → never ≡ Schedule line → ⊥) →
    (at : Position State) → chosen machine at ≡ Stops never → ⊥
unfolding chosen
stops-not {State} machine never no_deadlock no_schedule at e = by at.left e
  where
    turned : (t : Turn) → by_turn at.turns (machine.wake at.state) t ≡ Stops never → ⊥
    turned (turn.Run tid most) e' = cc
    turned turn.Deadlock e' = no_deadlock (let is : never ≡ Deadlock = cc in is)
    turned (turn.Mismatch line) e' = no_schedule line (let is : never ≡ Schedule line = cc in is)

    by : (left : ℕ) → chosen_by machine at left ≡ Stops never → ⊥
    by zero e' = turned (turn_of at.turns (machine.ready (machine.wake at.state))) e'
    by (suc more) e' = cc

-- No step of the machine ends a run for the budget.
abbrev NeverEndsForBudget : {State : Type 0} → Machine State → Type 0
NeverEndsForBudget {State} machine = (state : State) (tid : ℕ) → (machine.step state tid).turn_status ≡ Ends Budget → ⊥

spends : {State : Type 0} (machine : Machine State) → NeverEndsForBudget machine → SpendsBudget machine
spends {State} machine never turns budget state =
    each_run machine (λ fuel run. run.finish ≡ Budget → length run.moves ≡ fuel) (record {
      spent = λ e. refl;
      stops = λ more at finish e ended. absurd (stops-not machine Budget (λ e. absurd (cc)) (λ line e. absurd (cc)) at (e ∙ ap Stops ended));
      ends = λ more opens state tid finish e ended. absurd (never state tid (e ∙ ap Ends ended));
      moves = λ more opens state tid run goes ih ended. ap suc (ih ended);
    }) budget (start turns state)

-- a step ends a run by an exit or a fault alone
status-not : (never : Finish) → ((status : ℕ) → never ≡ Exit status → ⊥) → ((kind : FaultKind) (tid at : ℕ) → never ≡ Fault kind tid at → ⊥) →
    (tid : ℕ) (outcome : Stepped) → turn_status_of tid outcome ≡ Ends never → ⊥
status-not never no_exit no_fault tid (Finished status) e = no_exit status (let is : never ≡ Exit status = cc in is)
status-not never no_exit no_fault tid (Faulted kind at) e = no_fault kind tid at (let is : never ≡ Fault kind tid at = cc in is)
status-not never no_exit no_fault tid _ e = cc

pub spends_budget : SpendsBudget guest
spends_budget = spends guest (λ m tid e. status-not Budget (λ status e. absurd (cc)) (λ kind tid at e. absurd (cc)) tid (step m tid).outcome e)

-- no run of the guest ends for depth by itself
never_deep : (turns : SchedulerState) (budget : ℕ) (state : MachineState) → (run guest turns budget state).finish ≡ Deep → ⊥
never_deep turns budget state =
    each_run guest (λ fuel run. run.finish ≡ Deep → ⊥) (record {
      spent = λ ended. absurd (let no : Budget ≡ Deep = ended in cc);
      stops = λ more at finish e ended. stops-not guest Deep (λ e. absurd (cc)) (λ line e. absurd (cc)) at (e ∙ ap Stops ended);
      ends = λ more opens state tid finish e ended. status-not Deep (λ status e. absurd (cc)) (λ kind tid at e. absurd (cc)) tid (step state tid).outcome (e ∙ ap Ends ended);
      moves = λ more opens state tid run goes ih. ih;
    }) budget (start turns state)

-- the turns that begin in these moves
abbrev IsTurn : ℕ → Entry → Type 0
IsTurn budget entry = (1 ≤ entry.most) × (entry.most ≤ budget)

pub current-le : (moves : List Move) → current moves ≤ length moves
current-le [] = omega arith
current-le (move ∷ moves) = by move.opens (current-le moves)
  where
    by : (b : Bool) → current moves ≤ length moves → cond b 0 (suc (current moves)) ≤ suc (length moves)
    by true ih = omega arith
    by false ih = omega (arith, ih)

recording-each : (budget : ℕ) (moves : List Move) → length moves ≤ budget → All (IsTurn budget) (recording moves)
recording-each budget [] h = All-nil (IsTurn budget)
recording-each budget (move ∷ moves) h = by move.opens (recording-each budget moves (omega (arith, h)))
  where
    by : (b : Bool) → All (IsTurn budget) (recording moves) → All (IsTurn budget) (cond b (record { tid = move.tid; most = suc (current moves) } ∷ recording moves) (recording moves))
    by true ih = All-cons (IsTurn budget) (record { tid = move.tid; most = suc (current moves) }) (recording moves) (omega arith, omega (arith, current-le moves, h)) ih
    by false ih = ih

recording-sum : (moves : List Move) → current moves + sum_by (λ (entry : Entry). entry.most) (recording moves) ≡ length moves
recording-sum [] = refl
recording-sum (move ∷ moves) = by move.opens (recording-sum moves)
  where
    by : (b : Bool) → current moves + sum_by (λ (entry : Entry). entry.most) (recording moves) ≡ length moves →
        cond b 0 (suc (current moves)) + sum_by (λ (entry : Entry). entry.most) (cond b (record { tid = move.tid; most = suc (current moves) } ∷ recording moves) (recording moves)) ≡ suc (length moves)
    by true ih = omega (arith, ih, sum_by-cons (λ (entry : Entry). entry.most) (record { tid = move.tid; most = suc (current moves) }) (recording moves))
    by false ih = omega (arith, ih)

pub records_turns : {State : Type 0} (machine : Machine State) → RecordsTurns machine
records_turns {State} machine turns budget state =
    let whole : WrittenRun = run machine turns budget state in
    let over : current whole.moves ≡ 0 = current-over machine budget (start turns state) refl in
    record {
      each = recording-each budget whole.moves (stays_within machine turns budget state);
      all = omega (arith, recording-sum whole.moves, over);
    }

-- ---- what is observed
kept-prefix : (fits : List Event → Bool) (past : List Event) (moves : List Move) → IsPrefix (moves_kept fits past moves) moves
kept-prefix fits past [] = ([], refl)
kept-prefix fits past (move ∷ moves) = by (fits (past_after past move.events)) (kept-prefix fits (past_after past move.events) moves)
  where
    by : (b : Bool) → IsPrefix (moves_kept fits (past_after past move.events) moves) moves →
        IsPrefix (move ∷ cond b (moves_kept fits (past_after past move.events) moves) []) (move ∷ moves)
    by true ih = (ih.0, ap (λ ms. move ∷ ms) ih.1)
    by false ih = (moves, refl)

kept-whole : (fits : List Event → Bool) → IsPrefixClosed fits → (past : List Event) (moves : List Move) → fits (past_after past (events_of moves)) ≡ true → moves_kept fits past moves ≡ moves
kept-whole fits closed past [] h = refl
kept-whole fits closed past (move ∷ moves) h =
    by (fits (past_after past move.events)) refl (kept-whole fits closed (past_after past move.events) moves) (ap fits (sym (past_after-append past move.events (events_of moves))) ∙ h)
  where
    by : (b : Bool) → fits (past_after past move.events) ≡ b →
        (fits (past_after (past_after past move.events) (events_of moves)) ≡ true → moves_kept fits (past_after past move.events) moves ≡ moves) →
        fits (past_after (past_after past move.events) (events_of moves)) ≡ true →
        move ∷ cond b (moves_kept fits (past_after past move.events) moves) [] ≡ move ∷ moves
    by true e ih h' = ap (λ ms. move ∷ ms) (ih h')
    by false e ih h' = absurd (true≢false (sym h' ∙ fits-earlier fits closed (past_after past move.events) (reverse (events_of moves)) e))

-- what is observed of a run is its first moves
pub observed_run-prefix : (fits : List Event → Bool) (past : List Event) (whole : WrittenRun) → IsPrefix (observed_run fits past whole).moves whole.moves
unfolding observed_run
observed_run-prefix fits past whole = kept-prefix fits past whole.moves

pub observes_part : ObservesPart
unfolding observed_run
observes_part fits past whole closed =
    let all = past_after past (events_of whole.moves) in
    record {
      moves = kept-prefix fits past whole.moves;
      passed = λ h.
          ap (λ ms. record { moves = ms; past = (observed_run fits past whole).past; finish = (observed_run fits past whole).finish }) (kept-whole fits closed past whole.moves h)
          ∙ ap (λ p. record { moves = whole.moves; past = p; finish = (observed_run fits past whole).finish }) (cut-fits fits all h)
          ∙ ap (λ b. record { moves = whole.moves; past = all; finish = cond b whole.finish Deep }) h;
      failed = λ h. ap (λ b. cond b whole.finish Deep) h;
    }

-- what begins some moves has no more of them before its next turn
current-prefix : (moves rest : List Move) → current moves ≤ current (moves ++ rest)
current-prefix [] rest = omega arith
current-prefix (move ∷ moves) rest = by move.opens (current-prefix moves rest)
  where
    by : (b : Bool) → current moves ≤ current (moves ++ rest) → cond b 0 (suc (current moves)) ≤ cond b 0 (suc (current (moves ++ rest)))
    by true ih = omega arith
    by false ih = omega (arith, ih)

pub observed_within : (fits : List Event → Bool) (past : List Event) (turns : SchedulerState) (budget : ℕ) (state : MachineState) →
    length (observed_run fits past (run guest turns budget state)).moves ≤ budget
observed_within fits past turns budget state =
    let whole = run guest turns budget state in
    let part = observed_run fits past whole in
    let begins : IsPrefix part.moves whole.moves = observed_run-prefix fits past whole in
    let both : length (part.moves ++ begins.0) ≡ length whole.moves = ap length begins.1 in
    omega (arith, both, length-append part.moves begins.0, stays_within guest turns budget state)

pub records_observed_turns : RecordsObservedTurns
records_observed_turns fits past turns budget state =
    let whole = run guest turns budget state in
    let part = observed_run fits past whole in
    let begins : IsPrefix part.moves whole.moves = observed_run-prefix fits past whole in
    let same : current (part.moves ++ begins.0) ≡ current whole.moves = ap current begins.1 in
    let over : current whole.moves ≡ 0 = current-over guest budget (start turns state) refl in
    record {
      each = recording-each budget part.moves (observed_within fits past turns budget state);
      all = omega (arith, recording-sum part.moves, current-prefix part.moves begins.0, same, over);
    }

pub ends_deep : EndsDeepExactly
ends_deep fits past turns budget state closed =
    let whole = run guest turns budget state in
    let part = observes_part fits past whole closed in (
      λ deep. elim (cases_Bool (fits (past_after past (events_of whole.moves)))) [
        | inl h ↦ absurd (never_deep turns budget state (sym (ap (λ (p : ObservedRun). p.finish) (part.passed h)) ∙ deep))
        | inr h ↦ h
      ],
      part.failed,
    )
