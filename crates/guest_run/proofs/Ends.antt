-- A run from its begin to its end.
use Rattle.std.proofs.Common.{◌≡◌, ControlFlow, ℕ, suc, ◌+◌, ◌-◌, ◌<◌, Bool, true, List, [], ◌∷◌, ◌++◌, length, length-append, Option, Some, None, Result, Ok, Err, IfOk, IfErr, refl, sym, ap, subst, ◌∙◌, append-nil, arith}
use Rattle.guest_words.specs.declared.endings.Finish.{Finish}
use Rattle.guest_words.specs.declared.endings.Finish.TheVariants.{Budget}
use Rattle.guest_words.specs.declared.limits.TheConstants.{RUN_STEPS}
use Rattle.trace_model.specs.declared.event_kinds.Event.{Event}
use Rattle.trace_model.specs.Cut.{IsPrefixClosed}
use Rattle.trace_model.specs.WellFormed.{IsWellFormed}
use Rattle.thread_sched.specs.TurnRule.{SchedulerState}
use Rattle.guest_machine.specs.Kept.{Parts, machine_of}
use Rattle.guest_machine.specs.Machine.{MachineState}
use Rattle.guest_machine.specs.Start as machine
use Rattle.guest_run.specs.declared.run.Ended.{Ended}
use Rattle.guest_run.specs.declared.run.Runner.{Runner}
use Rattle.guest_run.specs.declared.run_error.RunError.{RunError}
use Rattle.guest_run.specs.declared.run_error.RunError.TheVariants.{CannotPut, Memory}
use Rattle.guest_run.specs.Private.CurrentTurn.{position, recorded, with_present}
use Rattle.guest_run.specs.Private.Going.{Advances, GoesOn, IsGoing, IsNewRunner, IsOver, IsPastOf, MayAdvance, Remains, Standing, TurnEnds, observed, standing_of}
use Rattle.guest_run.specs.Machine.{guest}
use Rattle.guest_run.specs.Output.{Sinks, with_output}
use Rattle.guest_run.specs.ObservedRun.{ObservedRun, first_past}
use Rattle.guest_run.specs.Run.{Move, Position, current, recording, run_from, start}
use Rattle.guest_run.specs.RunEnds.{IsAtStart, IsGivenUp, RunEnds, StopsAtPut}
use Rattle.guest_run.proofs.Advances.{over_spent}
use Rattle.guest_run.proofs.Guarded.{start_sound}
use Rattle.guest_run.proofs.Output.{output-none}
use Rattle.guest_run.proofs.ShortParts.{first_short}

-- nothing was put before the first move
pub not_begun : (p : ObservedRun) (before : Sinks) → IsGivenUp p.moves before before
not_begun p before = record { earlier = []; later = p.moves; are = refl; output = sym (output-none before) }

-- all of it is observed, but the recording runs out of memory
over_given_up : {W : Type 0} (Stands : W → List Event → Type 0) (p : ObservedRun) (before : Sinks) (r : Standing) (observer : W) (after : Sinks) (finish : Finish) →
    IsOver Stands p before r observer after finish → IsGivenUp p.moves before after
over_given_up Stands p before r observer after finish over = record { earlier = p.moves; later = []; are = append-nil p.moves; output = over.output }

-- so the run ends where all of it is observed
pub ends_over : {W : Type 0} (Stands : W → List Event → Type 0) (p : ObservedRun) (before : Sinks) (r : Standing) (observer : W) (after : Sinks) (finish : Finish) →
    IsOver Stands p before r observer after finish → (result : Result Ended RunError) →
    IfOk result (λ ended. (ended.recording ≡ recorded r.recorder []) × (ended.finish ≡ finish)) → IfErr result (λ e. e ≡ Memory) →
    RunEnds Stands p before observer after result
ends_over Stands p before r observer after finish over (Ok ended) is none =
    record { past = over.past; output = over.output; recorded = is.0 ∙ over.turns; finish = is.1 ∙ sym over.finish_is }
ends_over Stands p before r observer after finish over (Err e) none is =
    subst (λ (why : RunError). RunEnds Stands p before observer after (Err why)) (sym is) (over_given_up Stands p before r observer after finish over)

module _ {W : Type 0} (Stands : W → List Event → Type 0) (fits : List Event → Bool) (first : List Event) (begin : Position MachineState)
    (before : Sinks) (count : ℕ) (r : Standing) (observer : W) (now : Sinks) (remains : Remains Stands fits first begin before count r observer now) where
  pub may_advance : count < RUN_STEPS → MayAdvance Stands fits r observer
  may_advance room = record {
    first = first;
    start = begin;
    moves = remains.moves;
    going = remains.going;
    room = omega (arith, room, remains.count_is);
  }

  remains_next : (new : Standing) (watched : W) (after : Sinks) → GoesOn Stands fits first begin remains.moves before new watched after →
      Remains Stands fits first begin before (count + 1) new watched after
  remains_next new watched after goes = record {
    moves = remains.moves ++ goes.move ∷ [];
    going = goes.going;
    output = goes.output;
    count_is = omega (arith, length-append remains.moves (goes.move ∷ []), remains.count_is);
  }

  -- the run goes on so, by the same test of its observer
  pub advances_by : (same : List Event → Bool) → same ≡ fits → count < RUN_STEPS → (new : Standing) (watched : W) (after : Sinks) (end : Result (Option Finish) RunError) →
      ((first' : List Event) (begin' : Position MachineState) (moves : List Move) (before' : Sinks) → IsGoing Stands same first' begin' moves r observer →
      length moves < RUN_STEPS → now ≡ with_output moves before' → Advances Stands same first' begin' moves before' new watched after end) →
      Advances Stands fits first begin remains.moves before new watched after end
  advances_by same is room new watched after end advances =
      subst (λ (test : List Event → Bool). IsGoing Stands test first begin remains.moves r observer → Advances Stands test first begin remains.moves before new watched after end) is
      (λ going. advances first begin remains.moves before going (omega (arith, room, remains.count_is)) remains.output) remains.going

  pub next_by : (new : Standing) (watched : W) (after : Sinks) (end : Option Finish) → end ≡ None →
      Advances Stands fits first begin remains.moves before new watched after (Ok end) → Remains Stands fits first begin before (count + 1) new watched after
  next_by new watched after None is goes = remains_next new watched after goes
  next_by new watched after (Some finish) is over = absurd (cc)

  -- the budget is spent
  pub ends_spent : IsPrefixClosed fits → (budget : ℕ) → count ≡ budget → IsOver Stands (observed fits first begin budget) before r observer now Budget
  ends_spent closed budget spent =
      let all : length remains.moves + 0 ≡ budget = omega (arith, spent, remains.count_is) in
      subst (λ n. IsOver Stands (observed fits first begin n) before r observer now Budget) all
      (over_spent Stands fits closed first begin remains.moves before r observer remains.going now remains.output)

  -- the whole budget, by the moves so far
  budget-by : (budget : ℕ) → count < budget → length remains.moves + suc (budget - (count + 1)) ≡ budget
  budget-by budget low = omega (arith, remains.count_is, low)

  pub over_by : (budget : ℕ) → count < budget → (new : Standing) (watched : W) (after : Sinks) (finish : Finish) →
      ((n : ℕ) → IsOver Stands (observed fits first begin (length remains.moves + suc n)) before new watched after finish) →
      IsOver Stands (observed fits first begin budget) before new watched after finish
  over_by budget low new watched after finish over =
      subst (λ n. IsOver Stands (observed fits first begin n) before new watched after finish) (budget-by budget low) (over (budget - (count + 1)))

  -- it is given up by the next move
  pub ends_failed : (budget : ℕ) → count < budget → (new : Standing) (watched : W) (after : Sinks) (e : RunError) →
      Advances Stands fits first begin remains.moves before new watched after (Err e) → RunEnds Stands (observed fits first begin budget) before watched after (Err e)
  ends_failed budget low new watched after (CannotPut channel) fails =
      subst (λ n. StopsAtPut channel (observed fits first begin n).moves before after) (budget-by budget low) (fails (budget - (count + 1)))
  ends_failed budget low new watched after Memory fails =
      subst (λ n. IsGivenUp (observed fits first begin n).moves before after) (budget-by budget low) (fails (budget - (count + 1)))

-- the same test of an observer
pub remains_same : {W : Type 0} (Stands : W → List Event → Type 0) (fits same : List Event → Bool) → same ≡ fits → (first : List Event) (begin : Position MachineState)
    (before : Sinks) (count : ℕ) (r : Standing) (observer : W) (now : Sinks) → Remains Stands fits first begin before count r observer now →
    Remains Stands same first begin before count r observer now
remains_same Stands fits same is first begin before count r observer now remains =
    subst (λ (test : List Event → Bool). Remains Stands test first begin before count r observer now) (sym is) remains

pub turn_same : {W : Type 0} (Stands : W → List Event → Type 0) (fits same : List Event → Bool) → same ≡ fits → (first : List Event) (begin : Position MachineState)
    (before : Sinks) (budget : ℕ) (r : Standing) (observer : W) (after : Sinks) (result : Result (ControlFlow Finish ℕ) RunError) →
    TurnEnds Stands same first begin before budget r observer after result → TurnEnds Stands fits first begin before budget r observer after result
turn_same Stands fits same is first begin before budget r observer after result ends =
    subst (λ (test : List Event → Bool). TurnEnds Stands test first begin before budget r observer after result) is ends

-- ---- the begin
no-turn : (tid made : ℕ) (moves : List Move) → made ≡ 0 → with_present tid made (current moves) (recording moves) ≡ recording moves
no-turn tid made moves none = ap (λ n. with_present tid n (current moves) (recording moves)) none

first_formed : (entry : ℕ) → IsWellFormed (first_past entry)
first_formed entry = (omega arith, omega arith, tt)

past_first : (parts : Parts) → IsAtStart parts → IsPastOf (first_past parts.entry) (machine_of parts)
past_first parts at =
    let sound = start_sound at.image at.arguments at.inputs at.stdin in
    let is : IsPastOf (first_past at.image.entry) (machine.start at.image at.arguments at.inputs at.stdin) = record {
      threads = sound.0;
      limits = sound.1;
      formed = first_formed at.image.entry;
      short = first_short at.image.entry;
    } in
    subst (λ entry. IsPastOf (first_past entry) (machine_of parts)) (sym at.entry)
    (subst (IsPastOf (first_past at.image.entry)) (sym at.state) is)

pub remains_first : {W : Type 0} (Stands : W → List Event → Type 0) (fits : List Event → Bool) (parts : Parts) (turns : SchedulerState)
    (before : Sinks) (r : Runner) (observer : W) → IsAtStart parts → IsNewRunner parts turns r →
    Stands observer (first_past parts.entry) → fits (first_past parts.entry) ≡ true →
    Remains Stands fits (first_past parts.entry) (start turns (machine_of parts)) before 0 (standing_of r) observer before
remains_first Stands fits parts turns before r observer at new stands fitting = record {
  moves = [];
  going = record {
    leads = λ n. ap (λ k. run_from guest k (start turns (machine_of parts))) (let e : 0 + n ≡ n = omega arith in e) ∙ ap (run_from guest n) here;
    stands = stands;
    fitting = fitting;
    past = subst (λ (m : Parts). IsPastOf (first_past parts.entry) (machine_of m)) (sym new.machine_is) (past_first parts at);
    few_steps = omega arith;
    turns = λ rest. ap (λ ts. ts ++ with_present r.recorder.tid r.recorder.made (current rest) (recording rest)) new.recorded_none ∙ no-turn r.recorder.tid r.recorder.made rest new.made;
    made = omega (arith, new.made);
    way = λ some. absurd (omega (arith, some, new.left));
    began = λ some. absurd (omega (arith, some, new.left));
  };
  output = sym (output-none before);
  count_is = refl;
}
  where
    here : start turns (machine_of parts) ≡ position (machine_of r.stepper.machine) r.turn
    here =
        ap (λ (m : Parts). start turns (machine_of m)) (sym new.machine_is)
        ∙ ap (λ (k : SchedulerState). start k (machine_of r.stepper.machine)) (sym new.scheduler)
        ∙ ap (λ l. let q : Position MachineState = record { state = machine_of r.stepper.machine; turns = r.turn.scheduler; left = l } in q) (sym new.left)
