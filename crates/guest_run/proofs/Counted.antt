-- A step for each move.
use Rattle.std.proofs.Common.{◌≡◌, ℕ, zero, suc, ◌+◌, ◌≤◌, Bool, true, false, cond, List, [], ◌∷◌, length, reverse, refl, sym, ap, ◌∙◌, arith}
use Rattle.std.proofs.lemmas.List.{reverse-append}
use Rattle.guest_words.specs.declared.endings.Finish.{Finish}
use Rattle.guest_words.specs.declared.endings.Finish.TheVariants.{Exit, Fault, Deadlock, Schedule}
use Rattle.trace_model.specs.declared.event_kinds.Event.{Event}
use Rattle.trace_model.specs.Cut.{cut, past_after}
use Rattle.trace_model.specs.Profile.{steps}
use Rattle.guest_kernel.specs.Kernel.{ready}
use Rattle.thread_sched.specs.TurnRule.{SchedulerState, turn_of}
use Rattle.thread_sched.specs.declared.turns.Turn.{Turn}
use Rattle.thread_sched.specs.declared.turns.Turn.TheVariants as turn
use Rattle.guest_machine.specs.declared.stepped.Stepped.{Stepped}
use Rattle.guest_machine.specs.declared.stepped.Stepped.TheVariants.{Finished, Faulted}
use Rattle.guest_machine.specs.Machine.{MachineState}
use Rattle.guest_machine.specs.Step.{step}
use Rattle.guest_machine.specs.Waking.{woken}
use Rattle.guest_machine.proofs.StepParts.{faulted, step_counts, steps-append}
use Rattle.guest_run.specs.declared.turn_status.TurnStatus.TheVariants.{Ends}
use Rattle.guest_run.specs.Machine.{guest, turn_status_of}
use Rattle.guest_run.specs.Run.{WrittenRun, Position, by_turn, chosen, chosen_by, events_of, run, run_from, start}
use Rattle.guest_run.specs.Run.Chosen.{Stops}
use Rattle.guest_run.specs.ObservedRun.{observed_run}
use Rattle.guest_run.specs.Laws.{CountsSteps, StepsWithin, faults}
use Rattle.guest_run.proofs.Bounds.{each_run, stays_within}

pub steps-reverse : (xs : List Event) → steps (reverse xs) ≡ steps xs
steps-reverse [] = refl
steps-reverse (x ∷ xs) =
    let whole : steps (reverse (x ∷ xs)) ≡ steps (reverse xs) + steps (x ∷ []) = ap steps (reverse-append (x ∷ []) xs) ∙ steps-append (reverse xs) (x ∷ []) in
    omega (arith, whole, steps-reverse xs, steps-append (x ∷ []) xs)

-- ---- runs
ends_faulted : (tid : ℕ) (outcome : Stepped) (finish : Finish) → turn_status_of tid outcome ≡ Ends finish → faults finish ≡ faulted outcome
ends_faulted tid (Finished status) finish e = let same : Exit status ≡ finish = cc in ap faults (sym same)
ends_faulted tid (Faulted kind at) finish e = let same : Fault kind tid at ≡ finish = cc in ap faults (sym same)
ends_faulted tid _ finish e = absurd (cc)

goes_faulted : (tid : ℕ) (outcome : Stepped) → ((finish : Finish) → turn_status_of tid outcome ≡ Ends finish → ⊥) → faulted outcome ≡ 0
goes_faulted tid (Faulted kind at) goes = absurd (goes (Fault kind tid at) refl)
goes_faulted tid _ goes = refl

abbrev moved_steps : ℕ → WrittenRun → Type 0
moved_steps fuel run = steps (events_of run.moves) + faults run.finish ≡ length run.moves

-- a turn rule's answer is no fault
chosen_faultless : (at : Position MachineState) (finish : Finish) → chosen guest at ≡ Stops finish → 0 + faults finish ≡ 0
unfolding chosen
chosen_faultless at finish e = by at.left e
  where
    turned : (t : Turn) → by_turn at.turns (woken at.state) t ≡ Stops finish → 0 + faults finish ≡ 0
    turned (turn.Run tid most) e' = absurd (cc)
    turned turn.Deadlock e' = let same : Deadlock ≡ finish = cc in ap (λ f. 0 + faults f) (sym same)
    turned (turn.Mismatch line) e' = let same : Schedule line ≡ finish = cc in ap (λ f. 0 + faults f) (sym same)

    by : (left : ℕ) → chosen_by guest at left ≡ Stops finish → 0 + faults finish ≡ 0
    by zero e' = turned (turn_of at.turns (ready (woken at.state).kernel)) e'
    by (suc more) e' = absurd (cc)

guest_counts : (fuel : ℕ) (at : Position MachineState) → moved_steps fuel (run_from guest fuel at)
guest_counts = each_run guest moved_steps (record {
  spent = refl;
  stops = λ more at finish e. chosen_faultless at finish e;
  ends = λ more opens m tid finish e.
      let both = steps-append (step m tid).events [] in
      let same = ends_faulted tid (step m tid).outcome finish e in
      omega (arith, both, same, step_counts m tid);
  moves = λ more opens m tid run goes ih.
      let both = steps-append (step m tid).events (events_of run.moves) in
      let none = goes_faulted tid (step m tid).outcome goes in
      omega (arith, both, none, step_counts m tid, ih);
})

pub counts_steps : CountsSteps
counts_steps turns budget state =
    let whole = run guest turns budget state in
    ap (λ n. n + faults whole.finish) (steps-reverse (events_of whole.moves)) ∙ guest_counts budget (start turns state)

-- a cut has no more steps than the whole
cut-steps : (fits : List Event → Bool) (past : List Event) → steps (cut fits past) ≤ steps past
cut-steps fits [] = omega arith
cut-steps fits (e ∷ past) = by (fits (e ∷ past)) (cut-steps fits past) (steps-append (e ∷ []) past)
  where
    by : (b : Bool) → steps (cut fits past) ≤ steps past → steps (e ∷ past) ≡ steps (e ∷ []) + steps past → steps (cond b (e ∷ past) (cut fits past)) ≤ steps (e ∷ past)
    by true ih whole = omega arith
    by false ih whole = omega (arith, ih, whole)

-- the whole past has at fits as many as the budget, beside those before the first move
pub steps_whole : (past : List Event) (turns : SchedulerState) (budget : ℕ) (state : MachineState) →
    steps (past_after past (events_of (run guest turns budget state).moves)) ≤ steps past + budget
steps_whole past turns budget state =
    let events = events_of (run guest turns budget state).moves in
    omega (arith, steps-append (reverse events) past, counts_steps turns budget state, stays_within guest turns budget state)

pub steps_within : StepsWithin
unfolding observed_run
steps_within fits past turns budget state =
    let all = past_after past (events_of (run guest turns budget state).moves) in
    omega (arith, cut-steps fits all, steps_whole past turns budget state)
