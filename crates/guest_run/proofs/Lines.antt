-- The line of a run that ended at an entry of its schedule is counted from 1, and is not above the number of its moves and one.
use Rattle.std.proofs.Common.{◌≡◌, ℕ, zero, suc, ◌+◌, ◌≤◌, Bool, true, false, cond, List, [], ◌∷◌, Option, Some, None, refl, subst, arith}
use Rattle.std.specs.List.{list_any}
use Rattle.std.specs.Prelude.{pred, ◌==◌}
use Rattle.guest_words.specs.declared.endings.Finish.{Finish}
use Rattle.guest_words.specs.declared.endings.Finish.TheVariants.{Exit, Fault, Deep, Schedule}
use Rattle.guest_machine.specs.declared.stepped.Stepped.{Stepped}
use Rattle.guest_machine.specs.declared.stepped.Stepped.TheVariants.{Finished, Faulted}
use Rattle.guest_machine.specs.Machine.{MachineState}
use Rattle.guest_run.specs.declared.turn_status.TurnStatus.{TurnStatus}
use Rattle.guest_run.specs.declared.turn_status.TurnStatus.TheVariants.{GoesOn, TurnOver, Ends}
use Rattle.guest_run.specs.Laws.{scheduler}
use Rattle.guest_run.specs.Machine.{guest, turn_status_of}
use Rattle.guest_run.specs.ObservedRun.{observed_run}
use Rattle.guest_run.specs.Run.{Chosen, Move, Position, WrittenRun, by_turn, by_turn_status, chosen, chosen_by, go_on, position_after, run, run_from, start}
use Rattle.guest_run.specs.Run.Chosen.{Moves, Stops}
use Rattle.trace_model.specs.declared.event_kinds.Event.{Event}
use Rattle.trace_model.specs.Cut.{past_after}
use Rattle.guest_run.specs.Run.{events_of}
use Rattle.thread_sched.specs.declared.entry.Entry.{Entry}
use Rattle.thread_sched.specs.declared.turns.Turn.{Turn}
use Rattle.thread_sched.specs.declared.turns.Turn.TheVariants as turn
use Rattle.thread_sched.specs.TurnRule.{SchedulerState, able, next_line, next_thread, scheduled, turn_if, turn_of}

-- the end that a step means
pub ends_same : (a b : Finish) → Ends a ≡ Ends b → a ≡ b
ends_same a b e = cc

-- what is observed of a run ends as the run does, or `Deep`
pub finish_of : (fits : List Event → Bool) (past : List Event) (whole : WrittenRun) (Holds : Finish → Type 0) → Holds Deep → Holds whole.finish → Holds (observed_run fits past whole).finish
unfolding observed_run
finish_of fits past whole Holds deep own = by (fits (past_after past (events_of whole.moves)))
  where
    by : (b : Bool) → Holds (cond b whole.finish Deep)
    by true = own
    by false = deep

abbrev pub IsCounted : ℕ → Finish → Type 0
IsCounted most (Schedule line) = (1 ≤ line) × (line ≤ most)
IsCounted most _ = Unit {0}

pub counted_line : (most : ℕ) (f : Finish) → IsCounted most f → (line : ℕ) → f ≡ Schedule line → 1 ≤ line
counted_line most f is line same = (subst (IsCounted most) same is).0

counted_more : (most more : ℕ) (f : Finish) → most ≤ more → IsCounted most f → IsCounted more f
counted_more most more (Schedule line) below is = (is.0, omega (arith, below, is.1))
counted_more most more _ below is = tt

-- ---- turns
-- the turn says no line but that of the next entry
abbrev SaysLine : ℕ → Turn → Type 0
SaysLine line (turn.Run tid most) = Unit {0}
SaysLine line turn.Deadlock = Unit {0}
SaysLine line (turn.Mismatch other) = other ≡ line

says_scheduled : (k : SchedulerState) (tids : List ℕ) (next : ℕ) (entries : List Entry) → SaysLine k.line (scheduled k tids next entries)
says_scheduled k tids next [] = tt
says_scheduled k tids next (e ∷ es) = by (list_any (λ tid. tid == e.tid) tids) refl
  where
    by : (b : Bool) → list_any (λ tid. tid == e.tid) tids ≡ b → SaysLine k.line (scheduled k tids next (e ∷ es))
    by true is = rw is tt
    by false is = rw is refl

says_if : (k : SchedulerState) (tids : List ℕ) (next : Option ℕ) → SaysLine k.line (turn_if k tids next)
says_if k tids None = tt
says_if k tids (Some next) = says_scheduled k tids next k.entries

says_line : (k : SchedulerState) (live : List (ℕ × Bool)) → SaysLine k.line (turn_of k live)
says_line k live = says_if k (able live) (next_thread k.last (able live))

-- ---- the run
-- the line goes on by one at most, and a run that stops says it
abbrev IsChosenCounted : ℕ → Chosen MachineState → Type 0
IsChosenCounted line (Moves opens to) = (1 ≤ to.turns.line) × (to.turns.line ≤ line + 1)
IsChosenCounted line (Stops finish) = IsCounted line finish

next_counted : (line : ℕ) (entries : List Entry) → 1 ≤ line → (1 ≤ next_line line entries) × (next_line line entries ≤ line + 1)
next_counted line [] some = (some, omega arith)
next_counted line (e ∷ es) some = (omega (arith, some), omega arith)

by_turn_counted : (k : SchedulerState) (m : MachineState) → 1 ≤ k.line → (t : Turn) → SaysLine k.line t → IsChosenCounted k.line (by_turn k m t)
by_turn_counted k m some (turn.Run tid most) says = next_counted k.line k.entries some
by_turn_counted k m some turn.Deadlock says = tt
by_turn_counted k m some (turn.Mismatch line) says = (omega (arith, some, says), omega (arith, says))

chosen_counted : (at : Position MachineState) → 1 ≤ at.turns.line → IsChosenCounted at.turns.line (chosen guest at)
unfolding chosen
chosen_counted at some = by at.left
  where
    by : (left : ℕ) → IsChosenCounted at.turns.line (chosen_by guest at left)
    by zero = let m = guest.wake at.state in by_turn_counted at.turns m some (turn_of at.turns (guest.ready m)) (says_line at.turns (guest.ready m))
    by (suc more) = (some, omega arith)

-- a step of the guest ends the run by no line
step_counted : (most tid : ℕ) (outcome : Stepped) (finish : Finish) → turn_status_of tid outcome ≡ Ends finish → IsCounted most finish
step_counted most tid (Finished status) finish is = subst (IsCounted most) (ends_same (Exit status) finish is) tt
step_counted most tid (Faulted kind at) finish is = subst (IsCounted most) (ends_same (Fault kind tid at) finish is) tt
step_counted most tid _ finish is = absurd (cc)

-- so does the rest of a run, whatever position it goes on from
abbrev RestIsCounted : ℕ → Type 0
RestIsCounted more = (at : Position MachineState) → 1 ≤ at.turns.line → IsCounted (at.turns.line + more) (run_from guest more at).finish

status_counted : (more : ℕ) → RestIsCounted more → (move : Move) (to : Position MachineState) (m : MachineState) → 1 ≤ to.turns.line → (s : TurnStatus)
    → ((finish : Finish) → s ≡ Ends finish → IsCounted (to.turns.line + more) finish) → IsCounted (to.turns.line + more) (by_turn_status (run_from guest more) move to m s).finish
status_counted more rest move to m some GoesOn ends = rest (position_after to m (pred to.left)) some
status_counted more rest move to m some TurnOver ends = rest (position_after to m 0) some
status_counted more rest move to m some (Ends finish) ends = ends finish refl

go_counted : (more line : ℕ) → RestIsCounted more → (c : Chosen MachineState) → IsChosenCounted line c → IsCounted (line + suc more) (go_on guest (run_from guest more) c).finish
go_counted more line rest (Stops finish) is = counted_more line (line + suc more) finish (omega arith) is
go_counted more line rest (Moves opens to) is =
    let p = guest.step to.state to.turns.last in
    counted_more (to.turns.line + more) (line + suc more) _ (omega (arith, is.1))
    (status_counted more rest _ to p.state is.0 p.turn_status (λ finish e. step_counted (to.turns.line + more) to.turns.last _ finish e))

run_counted : (more : ℕ) → RestIsCounted more
unfolding run_from
run_counted zero at some = tt
run_counted (suc more) at some = go_counted more at.turns.line (run_counted more) (chosen guest at) (chosen_counted at some)

pub observed_counted : (fits : List Event → Bool) (past : List Event) (quantum : ℕ) (turns : List Entry) (budget : ℕ) (m : MachineState)
    → IsCounted (1 + budget) (observed_run fits past (run guest (scheduler quantum turns) budget m)).finish
observed_counted fits past quantum turns budget m =
    finish_of fits past (run guest (scheduler quantum turns) budget m) (IsCounted (1 + budget)) tt (run_counted budget (start (scheduler quantum turns) m) (omega arith))
