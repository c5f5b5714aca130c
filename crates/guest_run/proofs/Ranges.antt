-- The numbers that a run tells are in their ranges.
use Rattle.std.proofs.Common.{◌≡◌, ℕ, zero, suc, ◌<◌, ◌≤◌, ◌+◌, ◌^◌, Bool, true, false, cond, List, [], ◌∷◌, refl, sym, subst, arith, inl, inr}
use Rattle.std.specs.Prelude.{max, nat_eq, not, pred, ◌||◌}
use Rattle.std.specs.List.{AllByRecursion}
use Rattle.std.proofs.lemmas.Bool.{and_parts}
use Rattle.std.proofs.lemmas.Bool.Decides.{nat_tests}
use Rattle.guest_words.specs.declared.endings.Finish.{Finish}
use Rattle.guest_words.specs.declared.endings.Finish.TheVariants.{Exit, Fault, Schedule}
use Rattle.guest_words.specs.declared.limits.TheConstants.{LAST_TID}
use Rattle.trace_model.specs.Cut.{cut, past_after}
use Rattle.trace_model.proofs.Cut.{past_after-append, past_after-cons}
use Rattle.trace_model.specs.declared.event_kinds.Event.{Event}
use Rattle.trace_model.specs.declared.event_kinds.Event.TheVariants as events
use Rattle.trace_model.specs.WellFormed.{greatest_start, is_live}
use Rattle.thread_sched.specs.TurnRule.{turn_of}
use Rattle.thread_sched.specs.declared.turns.Turn.{Turn}
use Rattle.thread_sched.specs.declared.turns.Turn.TheVariants as turn
use Rattle.elf_image.specs.Image.{Executable}
use Rattle.guest_kernel.specs.Inputs.{Input}
use Rattle.guest_machine.specs.declared.stepped.Stepped.{Stepped}
use Rattle.guest_machine.specs.declared.stepped.Stepped.TheVariants.{Finished, Faulted}
use Rattle.guest_machine.specs.Laws.{HaveAddresses, IsAddress, IsToldInRange, TellsAddresses}
use Rattle.guest_machine.specs.Machine.{MachineState, can_run}
use Rattle.guest_machine.specs.Start.{start}
use Rattle.guest_machine.specs.Step.{step}
use Rattle.guest_machine.proofs.Ranges.{every_step_in_range, every_waking_in_range, tells-append}
use Rattle.guest_run.specs.declared.turn_status.TurnStatus.{TurnStatus}
use Rattle.guest_run.specs.declared.turn_status.TurnStatus.TheVariants.{GoesOn, TurnOver, Ends}
use Rattle.guest_run.specs.Laws.{scheduler}
use Rattle.guest_run.specs.Machine.{guest, turn_status_of}
use Rattle.guest_run.specs.ObservedRun.{first_past, observed_run}
use Rattle.guest_run.specs.Run.{Chosen, Position, by_turn, by_turn_status, chosen, chosen_by, events_of, go_on, move_of, position_after, run, run_from}
use Rattle.guest_run.specs.Run as runs
use Rattle.guest_run.specs.Run.Chosen.{Moves, Stops}
use Rattle.guest_run.specs.Traces.{EveryRunTellsInRange, IsEndInRange, IsEventInRange, IsThread}
use Rattle.guest_run.proofs.Able.{step_able}
use Rattle.guest_run.proofs.Entries.{numbered}
use Rattle.guest_run.proofs.Formed.{AllFollow, all_after, run_follows}
use Rattle.guest_run.proofs.Guarded.{IsAble, IsChosenAble, IsSoundAfter, Steps, chosen_able, each_move, goes_went, sound_next, sound_woken, start_able, start_sound}
use Rattle.guest_run.proofs.Lines.{IsCounted, ends_same, finish_of, observed_counted}

-- ---- what a past tells
after_tells : (events past : List Event) → AllByRecursion TellsAddresses past → AllByRecursion TellsAddresses events → AllByRecursion TellsAddresses (past_after past events)
after_tells [] past old new = old
after_tells (e ∷ events) past old new = subst (AllByRecursion TellsAddresses) (sym (past_after-cons past e events)) (after_tells events (e ∷ past) (new.0, old) new.1)

-- a thread that lives has started
live_started : (past : List Event) (t : ℕ) → AllFollow past → is_live past t ≡ true → (1 ≤ t) × (t ≤ greatest_start past)
live_started [] t all live = absurd (cc)
live_started (events.Step tid ∷ past) t all live = live_started past t all.1 live
live_started (events.Read tid first count ∷ past) t all live = live_started past t all.1 live
live_started (events.Write tid first count ∷ past) t all live = live_started past t all.1 live
live_started (events.Fill first count ∷ past) t all live = live_started past t all.1 live
live_started (events.Call tid entry back ∷ past) t all live = live_started past t all.1 live
live_started (events.Ret tid target ∷ past) t all live = live_started past t all.1 live
live_started (events.End tid ∷ past) t all live = live_started past t all.1 (and_parts (not (nat_eq t tid)) (is_live past t) live).1
live_started (events.Start tid entry ∷ past) t all live = by (nat_eq t tid) refl live (live_started past t all.1)
  where
    by : (b : Bool) → nat_eq t tid ≡ b → (b || is_live past t) ≡ true → (is_live past t ≡ true → (1 ≤ t) × (t ≤ greatest_start past)) → (1 ≤ t) × (t ≤ max tid (greatest_start past))
    by true is some rest =
        let same : t ≡ tid = grind (arith, nat_tests, is) in
        (omega (arith, same, all.0), omega (arith, same))
    by false is some rest = let own = rest some in (own.0, omega (arith, own.1))

-- each number is in its range, where no thread has a number above the last
in_range : (past : List Event) → AllFollow past → AllByRecursion TellsAddresses past → greatest_start past ≤ LAST_TID → AllByRecursion IsEventInRange past
in_range past all tells low = by past all tells low
  where
    thread : (past : List Event) (t : ℕ) → AllFollow past → greatest_start past ≤ LAST_TID → is_live past t ≡ true → IsThread t
    thread past t all low live = let own = live_started past t all live in (own.0, omega (arith, own.1, low))

    by : (past : List Event) → AllFollow past → AllByRecursion TellsAddresses past → greatest_start past ≤ LAST_TID → AllByRecursion IsEventInRange past
    by [] all tells low = tt
    by (events.Step tid ∷ past) all tells low = (thread past tid all.1 low all.0, by past all.1 tells.1 low)
    by (events.Read tid first count ∷ past) all tells low = ((thread past tid all.1 low all.0.0.0, all.0.1), by past all.1 tells.1 low)
    by (events.Write tid first count ∷ past) all tells low = ((thread past tid all.1 low all.0.0.0, all.0.1), by past all.1 tells.1 low)
    by (events.Fill first count ∷ past) all tells low = (all.0, by past all.1 tells.1 low)
    by (events.Call tid entry back ∷ past) all tells low = ((thread past tid all.1 low all.0.0, tells.0.0, tells.0.1), by past all.1 tells.1 low)
    by (events.Ret tid target ∷ past) all tells low = ((thread past tid all.1 low all.0.0, tells.0), by past all.1 tells.1 low)
    by (events.Start tid entry ∷ past) all tells low = (((omega (arith, all.0), omega (arith, low)), tells.0), by past all.1 tells.1 (omega (arith, low)))
    by (events.End tid ∷ past) all tells low = (thread past tid all.1 low all.0, by past all.1 tells.1 low)

each_cut : (Holds : Event → Type 0) (fits : List Event → Bool) (past : List Event) → AllByRecursion Holds past → AllByRecursion Holds (cut fits past)
each_cut Holds fits [] all = tt
each_cut Holds fits (e ∷ past) all = by (fits (e ∷ past)) (each_cut Holds fits past all.1)
  where
    by : (b : Bool) → AllByRecursion Holds (cut fits past) → AllByRecursion Holds (cond b (e ∷ past) (cut fits past))
    by true rest = all
    by false rest = rest

-- ---- the moves of a run
abbrev IsAddressed : MachineState → List Event → Type 0
IsAddressed m past = IsSoundAfter m past × HaveAddresses m.harts

run_tells : Steps IsAddressed (λ past moves. AllByRecursion TellsAddresses (events_of moves))
run_tells = record {
  keeps = λ m tid past kept can. (sound_next m tid past kept.0 can, (every_step_in_range m tid kept.1).harts);
  wakes = λ m past kept. (sound_woken m past kept.0, every_waking_in_range m kept.1);
  none = λ past. tt;
  moves = λ opens m tid past moves kept can rest. tells-append (step m tid).events (events_of moves) (every_step_in_range m tid kept.1).events rest;
}

run_starts : Steps IsSoundAfter (λ past moves. greatest_start past ≤ LAST_TID → greatest_start (past_after past (events_of moves)) ≤ LAST_TID)
run_starts = record {
  keeps = sound_next;
  wakes = sound_woken;
  none = λ past low. low;
  moves = λ opens m tid past moves sound can rest low.
      let next = sound_next m tid past sound can in
      subst (λ (p : List Event). greatest_start p ≤ LAST_TID) (sym (past_after-append past (step m tid).events (events_of moves)))
      (rest (omega (arith, next.0.started, next.1.last)));
}

-- ---- the end of a run
abbrev IsMachineEnd : Finish → Type 0
IsMachineEnd (Exit status) = status < 2 ^ 8
IsMachineEnd (Fault kind tid at) = IsThread tid × IsAddress at
IsMachineEnd finish = Unit {0}

step_ends : (tid : ℕ) (outcome : Stepped) (finish : Finish) → IsThread tid → IsToldInRange outcome → turn_status_of tid outcome ≡ Ends finish → IsMachineEnd finish
step_ends tid (Finished status) finish thread told is = subst IsMachineEnd (ends_same (Exit status) finish is) told
step_ends tid (Faulted kind at) finish thread told is = subst IsMachineEnd (ends_same (Fault kind tid at) finish is) (thread, told)
step_ends tid _ finish thread told is = absurd (cc)

-- where no one moves next the run ends by neither
abbrev StopsWell : Chosen MachineState → Type 0
StopsWell (Moves opens to) = Unit {0}
StopsWell (Stops finish) = IsMachineEnd finish

chosen_stops : (at : Position MachineState) → StopsWell (chosen guest at)
unfolding chosen
chosen_stops at = by at.left
  where
    turned : (t : Turn) → StopsWell (by_turn at.turns (guest.wake at.state) t)
    turned (turn.Run tid most) = tt
    turned turn.Deadlock = tt
    turned (turn.Mismatch line) = tt

    by : (left : ℕ) → StopsWell (chosen_by guest at left)
    by zero = turned (turn_of at.turns (guest.ready (guest.wake at.state)))
    by (suc more) = tt

abbrev EndsFrom : ℕ → Type 0
EndsFrom more = (at : Position MachineState) (past : List Event) → IsAddressed at.state past → IsAble at → IsMachineEnd (run_from guest more at).finish

run_ends : (more : ℕ) → EndsFrom more
unfolding run_from
run_ends zero at past kept able = tt
run_ends (suc more) at past kept able = by (chosen guest at) (chosen_able at able) (chosen_stops at) (run_ends more)
  where
    by_status : EndsFrom more → (opens : Bool) (to : Position MachineState) (turn_status : TurnStatus) → IsAddressed to.state past →
        can_run to.state to.turns.last ≡ true → turn_status_of to.turns.last (step to.state to.turns.last).outcome ≡ turn_status →
        IsMachineEnd (by_turn_status (run_from guest more) (move_of opens to.turns.last (guest.step to.state to.turns.last)) to (step to.state to.turns.last).machine turn_status).finish
    by_status ih opens to GoesOn kept' can statuses =
        let tid = to.turns.last in
        ih (position_after to (step to.state tid).machine (pred to.left)) (past_after past (step to.state tid).events) (run_tells.keeps to.state tid past kept' can)
        (λ some. step_able to.state tid can (goes_went tid (step to.state tid).outcome statuses))
    by_status ih opens to TurnOver kept' can statuses =
        let tid = to.turns.last in
        ih (position_after to (step to.state tid).machine 0) (past_after past (step to.state tid).events) (run_tells.keeps to.state tid past kept' can) (λ some. absurd (omega (arith, some)))
    by_status ih opens to (Ends finish) kept' can statuses =
        let tid = to.turns.last in
        step_ends tid (step to.state tid).outcome finish (numbered to.state tid past kept'.0 can) (every_step_in_range to.state tid kept'.1).outcome statuses

    by : (c : Chosen MachineState) → IsChosenAble at.state c → StopsWell c → EndsFrom more → IsMachineEnd (go_on guest (run_from guest more) c).finish
    by (Moves opens to) is stops ih =
        let still : IsAddressed to.state past = elim is.0 [
          | inl same ↦ subst (λ m. IsAddressed m past) (sym same) kept
          | inr later ↦ subst (λ m. IsAddressed m past) (sym later) (run_tells.wakes at.state past kept)
        ] in
        by_status ih opens to (guest.step to.state to.turns.last).turn_status still is.1 refl
    by (Stops finish) is stops ih = stops

-- both facts of an end
both_ends : (lines : ℕ) (f : Finish) → IsMachineEnd f → IsCounted lines f → IsEndInRange lines f
both_ends lines (Exit status) machine counted = machine
both_ends lines (Fault kind tid at) machine counted = machine
both_ends lines (Schedule line) machine counted = counted
both_ends lines _ machine counted = tt

start_addresses : (image : Executable) (arguments : List (List ℕ)) (inputs : List Input) (stdin : List ℕ) → IsAddress image.entry →
    HaveAddresses (start image arguments inputs stdin).harts
unfolding start
start_addresses image arguments inputs stdin entry = (entry, tt)

pub every_run_in_range : EveryRunTellsInRange
unfolding observed_run
every_run_in_range image arguments inputs stdin fits quantum schedule budget entry =
    let begin = start image arguments inputs stdin in
    let past = first_past image.entry in
    let at = runs.start (scheduler quantum schedule) begin in
    let whole = run guest (scheduler quantum schedule) budget begin in
    let sound = start_sound image arguments inputs stdin in
    let able = start_able at refl in
    let kept : IsAddressed begin past = (sound, start_addresses image arguments inputs stdin entry) in
    let follow = all_after (events_of whole.moves) past (omega arith, tt) (each_move IsSoundAfter _ run_follows budget at past sound able) in
    let tells = after_tells (events_of whole.moves) past (entry, tt) (each_move IsAddressed _ run_tells budget at past kept able) in
    let low = each_move IsSoundAfter _ run_starts budget at past sound able (omega arith) in
    record {
      events = each_cut IsEventInRange fits (past_after past (events_of whole.moves)) (in_range (past_after past (events_of whole.moves)) follow tells low);
      finish = both_ends (1 + budget) _ (finish_of fits past whole IsMachineEnd tt (run_ends budget at past kept able))
          (observed_counted fits past quantum schedule budget begin);
    }
