-- Steps of a thread in a row, one more at a time.
use Rattle.std.proofs.Common.{◌≡◌, ℕ, ◌+◌, ◌<◌, Bool, List, ◌++◌, Option, None, Some, Result, Ok, Err, IfOk, IfSome, IfNone, refl, sym, subst, arith, append-nil}
use Rattle.std.specs.declared.alloc.AllocError.{AllocError}
use Rattle.rv_exec.specs.Effects.{ExecState}
use Rattle.trace_model.specs.declared.event_kinds.Event.{Event}
use Rattle.trace_model.specs.declared.observer.Observed.{Observed}
use Rattle.trace_model.specs.declared.observer.Observed.TheVariants.{Taken, Refused}
use Rattle.trace_model.specs.Observing.{MayTakeAll, ObservesAll, StepsFit}
use Rattle.guest_machine.specs.declared.stepped.Advanced.{Advanced}
use Rattle.guest_machine.specs.declared.stepped.Advanced.TheVariants.{Ran}
use Rattle.guest_machine.specs.Machine.{MachineState}
use Rattle.guest_machine.specs.Private.Carrying.{GoesWith, IsStateOf, IsStepOf}
use Rattle.guest_machine.specs.Private.Rows.{handed, HasMade, HasRun, IsNext, Row, Runs}
use Rattle.guest_machine.specs.Running.{after_steps}
use Rattle.guest_machine.specs.Told.{IsInstruction, done_by, steps_of}
use Rattle.guest_machine.proofs.Carried.{goes_none, goes_plainly, goes_then, may_take_then, observes_last, observes_more}

module _ {O : Type 0} (Stands : O → List Event → Type 0) (fits : List Event → Bool) (fit : StepsFit fits) (tid : ℕ) (first : ExecState) (old : O) (most : ℕ)
    (row : Row) (here : ExecState) (now : O) (run : HasRun Stands fits tid first old most row here now) where
  -- the row as it is was made
  pub made_so_far : HasMade tid first most row here
  made_so_far = record { carried = λ m is. (run.carried m is).carries; few = omega (arith, run.room, run.within) }

  -- what the thread works on, on some machine
  abbrev there : MachineState
  there = after_steps run.may.machine tid (row.told + row.plain)

  pub state_here : IsStateOf here tid there
  state_here = (run.carried run.may.machine run.may.of).carries.of

  -- one more step
  module _ (low : row.plain < row.left) (new : ExecState) (advanced : Advanced) (step : IsStepOf here new tid advanced) where
    below : row.told + row.plain < most
    below = omega (arith, run.room, low)

    pub may_hand : MayTakeAll Stands fits now (steps_of tid (row.plain + 1) ++ done_by tid advanced)
    may_hand =
        let m = run.may.machine in
        let goes = run.carried m run.may.of in
        may_take_then Stands fits fit m tid row.told row.plain here goes old now (run.observed m run.may.of) (done_by tid advanced) new
        (step there goes.carries.of) most below run.may.next

    goes_handed : (m : MachineState) → IsStateOf first tid m → GoesWith m tid row.told new (row.plain + 1) (steps_of tid (row.plain + 1) ++ done_by tid advanced)
    goes_handed m is =
        let goes = run.carried m is in
        goes_then m tid row.told row.plain here goes new (done_by tid advanced) (step (after_steps m tid (row.told + row.plain)) goes.carries.of)

    made_handed : HasMade tid first most (handed row) new
    made_handed = record {
      carried = λ m is. (goes_none m tid (row.told + (row.plain + 1)) new (goes_handed m is).carries).carries;
      few = omega (arith, below);
    }

    -- a step that was handed out
    pub runs_handed : (answer : Result Observed AllocError) (later : O)
        → IfOk answer (ObservesAll Stands fits (steps_of tid (row.plain + 1) ++ done_by tid advanced) now later)
        → Runs Stands fits tid first old most (handed row) new later answer
    runs_handed (Ok Taken) later observes = record {
      may = run.may;
      carried = λ m is. goes_none m tid (row.told + (row.plain + 1)) new (goes_handed m is).carries;
      observed = λ m is.
          let goes = run.carried m is in
          observes_more Stands fits fit m tid row.told row.plain here goes old now (run.observed m is) (row.plain + 1)
          (steps_of tid (row.plain + 1) ++ done_by tid advanced) new (goes_handed m is) later observes;
      pending = λ some. absurd (omega (arith, some));
      room = omega (arith, run.room, low);
      within = omega arith;
    }
    runs_handed (Ok Refused) later observes = record {
      made = made_handed;
      none = refl;
      observed = λ m is.
          let goes = run.carried m is in
          observes_last Stands fits fit m tid row.told row.plain here goes old now (run.observed m is) (done_by tid advanced) new
          (step (after_steps m tid (row.told + row.plain)) goes.carries.of) later observes;
    }
    runs_handed (Err e) later observes = made_handed

    -- the same, of a row and an answer that are these
    pub runs_to : (new_row : Row) → new_row ≡ handed row → (result answer : Result Observed AllocError) → result ≡ answer → (later : O)
        → IfOk result (ObservesAll Stands fits (steps_of tid (row.plain + 1) ++ done_by tid advanced) now later)
        → Runs Stands fits tid first old most new_row new later answer
    runs_to new_row is result answer same later observes =
        subst (λ (r : Row). Runs Stands fits tid first old most r new later answer) (sym is)
        (subst (Runs Stands fits tid first old most (handed row) new later) same (runs_handed result later observes))

  -- a step that did nothing beside
  pub runs_plainly : row.plain < row.left → (new : ExecState) → IsStepOf here new tid Ran
      → HasRun Stands fits tid first old most (record row { plain = row.plain + 1 }) new now
  runs_plainly low new step = record {
    may = run.may;
    carried = λ m is.
        let goes = run.carried m is in
        goes_plainly m tid row.told row.plain here goes new (step (after_steps m tid (row.told + row.plain)) goes.carries.of);
    observed = run.observed;
    pending = λ some.
        subst (MayTakeAll Stands fits now) (append-nil (steps_of tid (row.plain + 1))) (may_hand low new Ran step);
    room = run.room;
    within = omega (arith, low);
  }

-- the counts of a row after a step that was handed out
pub handed_whole : (row new : Row) → new ≡ handed row → row.plain < row.left → new.told + new.left ≡ row.told + row.left
handed_whole row new is low = subst (λ (r : Row). r.told + r.left ≡ row.told + row.left) (sym is) (omega (arith, low))

pub handed_grows : (row new : Row) → new ≡ handed row → row.told + row.plain < new.told + new.plain
handed_grows row new is = subst (λ (r : Row). row.told + row.plain < r.told + r.plain) (sym is) (omega arith)

-- what carrying out the next instruction says of it
pub is_next : (here new : ExecState) (tid : ℕ) (next : Option Advanced) → IfSome next (IsStepOf here new tid) → IfNone next (new ≡ here) → IfSome next IsInstruction
    → IsNext here new tid next
is_next here new tid None step kept is = kept
is_next here new tid (Some advanced) step kept is = (step, is)
