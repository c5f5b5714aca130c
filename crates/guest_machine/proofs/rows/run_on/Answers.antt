use Rattle.std.proofs.Common.{◌≡◌, ℕ, ◌+◌, ◌≤◌, Bool, List, Result, Ok, IfOk, OnOk, Err, refl, sym, subst, ◌∙◌, arith}
use Rattle.rv_exec.specs.Effects.{ExecState, exec_state_of}
use Rattle.trace_model.specs.declared.event_kinds.Event.{Event}
use Rattle.trace_model.specs.declared.observer.Observed.{Observed}
use Rattle.trace_model.specs.declared.observer.Observed.TheVariants.{Refused, Taken}
use Rattle.trace_model.specs.Observing.{MayTakeAll, ObservesAll, StepsFit}
use Rattle.guest_machine.specs.Machine.{MachineState}
use Rattle.guest_machine.specs.Private.Carrying.{Carries, IsStateOf, ObservesFrom}
use Rattle.guest_machine.specs.Private.Rows.{HasEnded, HasMade, HasRun, Row, Runs, RunsOn, further_of}
use Rattle.guest_machine.specs.Running.{ObservesSteps}
use Rattle.guest_machine.specs.Told.{steps_of}
use Rattle.guest_machine.proofs.Carried.{carries_none, goes_none, observes_more}
use Rattle.guest_machine.proofs.RowOfSteps.{made_so_far}
use Rattle.guest_machine.proofs.rows.run_on.Goals as goal

-- an answer that is Taken where it is Ok
ok_taken : {E X : Type 0} (P : Observed → Type 0) (r : Result Observed E) → IfOk r (λ observed. observed ≡ Taken) → OnOk r X → (X → P Taken) → IfOk r P
ok_taken P (Ok observed) taken x by = subst P (sym taken) (by x)
ok_taken P (Err e) taken x by = tt

-- what was made of a row that ends, by the counts that are asked of it
made_of_count : (tid : ℕ) (first : ExecState) (most : ℕ) (row : Row) (here : ExecState) → HasMade tid first most row here → (count : ℕ) → count ≡ row.told + row.plain
    → (m : MachineState) → IsStateOf first tid m → Carries m tid here count
made_of_count tid first most row here made count is m of = subst (Carries m tid here) (sym is) (made.carried m of)

module _ {O : Type 0} (Stands : O → List Event → Type 0) (fits : List Event → Bool) (fit : StepsFit fits) (tid : ℕ) (first : ExecState) (old : O) (most : ℕ)
    (row : Row) (here : ExecState) (now : O) where
  -- the plain steps at the end are handed out
  observed_all : HasRun Stands fits tid first old most row here now → (count plain : ℕ) → count ≡ row.told + row.plain → plain ≡ row.plain → (later : O)
      → ObservesAll Stands fits (steps_of tid plain) now later Taken → ObservesFrom Stands fits first tid old later count Taken
  observed_all run count plain is of later observes m of_m =
      let goes = run.carried m of_m in
      subst (λ n. ObservesSteps Stands fits m tid old later n Taken) (sym is)
      (observes_more Stands fits fit m tid row.told row.plain here goes old now (run.observed m of_m) row.plain (steps_of tid row.plain) here goes later
      (subst (λ n. ObservesAll Stands fits (steps_of tid n) now later Taken) of observes))

  -- a step that was refused is the last
  refused_all : HasEnded Stands fits tid first old most row here now → (count : ℕ) → count ≡ row.told → ObservesFrom Stands fits first tid old now count Refused
  refused_all ended count is m of_m = subst (λ n. ObservesSteps Stands fits m tid old now n Refused) (sym is) (ended.observed m of_m)

  refused_made : HasEnded Stands fits tid first old most row here now → (count : ℕ) → count ≡ row.told → count ≡ row.told + row.plain
  refused_made ended count is = omega (arith, is, ended.none)

pub steps-init : goal.steps-init
steps-init g c =
    let old = c.args.observer.now in
    let here = exec_state_of c.args.cpu.now c.args.memory.now c.args.held.now in
    record {
      run = subst (λ (row : Row). HasRun g.W.Observer.stands (g.W.Observer.fits old) c.args.tid here old c.args.most row here old) (sym c.new-row.ensures)
          (record {
            may = c.requires;
            carried = λ m is. goes_none m c.args.tid 0 here (carries_none m c.args.tid here is);
            observed = λ m is past stood fitting. (stood, fitting);
            pending = λ some. absurd (omega (arith, some));
            room = omega arith;
            within = omega arith;
          });
      same = refl;
    }

pub steps-smaller : goal.steps-smaller
steps-smaller g c =
    let old = c.args.observer.now in
    let tid = c.args.tid in
    let first = exec_state_of c.args.cpu.now c.args.memory.now c.args.held.now in
    let here = exec_state_of c.steps.cpu c.steps.memory c.steps.held in
    let new = exec_state_of c.run_further.new.cpu c.run_further.new.memory c.run_further.new.held in
    let same = c.run_further.ensures.same ∙ c.steps.invariant.same in
    let run = subst (λ f. Runs g.W.Observer.stands (g.W.Observer.fits old) tid first old c.args.most c.run_further.new.row new c.run_further.new.observer (further_of f)) c.in-Went.is
    (subst (λ fits. RunsOn g.W.Observer.stands fits tid c.steps.row here c.steps.observer c.run_further.new.row new c.run_further.new.observer (further_of c.run_further.result)) c.steps.invariant.same c.run_further.ensures.runs first old c.args.most c.steps.invariant.run) in
    let grows = c.run_further.ensures.grows c.in-Went.is in
    omega (arith, run.room, run.within, c.steps.invariant.run.room, grows, c.steps.invariant.run.within)

pub steps-preserved : goal.steps-preserved
steps-preserved g c =
    let old = c.args.observer.now in
    let tid = c.args.tid in
    let first = exec_state_of c.args.cpu.now c.args.memory.now c.args.held.now in
    let here = exec_state_of c.steps.cpu c.steps.memory c.steps.held in
    let new = exec_state_of c.run_further.new.cpu c.run_further.new.memory c.run_further.new.held in
    let same = c.run_further.ensures.same ∙ c.steps.invariant.same in
    let run = subst (λ f. Runs g.W.Observer.stands (g.W.Observer.fits old) tid first old c.args.most c.run_further.new.row new c.run_further.new.observer (further_of f)) c.in-Went.is
    (subst (λ fits. RunsOn g.W.Observer.stands fits tid c.steps.row here c.steps.observer c.run_further.new.row new c.run_further.new.observer (further_of c.run_further.result)) c.steps.invariant.same c.run_further.ensures.runs first old c.args.most c.steps.invariant.run) in
    record { run = run; same = same }

pub observe_plain-requires : goal.observe_plain-requires
observe_plain-requires g c = λ some.
    let old = c.args.observer.now in
    let tid = c.args.tid in
    let first = exec_state_of c.args.cpu.now c.args.memory.now c.args.held.now in
    let here = exec_state_of c.steps.cpu c.steps.memory c.steps.held in
    let new = exec_state_of c.run_further.new.cpu c.run_further.new.memory c.run_further.new.held in
    let same = c.run_further.ensures.same ∙ c.steps.invariant.same in
    let run = subst (λ f. Runs g.W.Observer.stands (g.W.Observer.fits old) tid first old c.args.most c.run_further.new.row new c.run_further.new.observer (further_of f)) c.in-Stopped.is
    (subst (λ fits. RunsOn g.W.Observer.stands fits tid c.steps.row here c.steps.observer c.run_further.new.row new c.run_further.new.observer (further_of c.run_further.result)) c.steps.invariant.same c.run_further.ensures.runs first old c.args.most c.steps.invariant.run) in
    let of = c.plain.ensures.value in
    subst (λ fits. MayTakeAll g.W.Observer.stands fits c.run_further.new.observer (steps_of tid c.plain.result)) (sym same)
    (subst (λ n. MayTakeAll g.W.Observer.stands (g.W.Observer.fits old) c.run_further.new.observer (steps_of tid n)) (sym of) (run.pending (subst (λ n. 1 ≤ n) of some)))

pub returns-in-Stopped-clause-carried : goal.returns-in-Stopped-clause-carried
returns-in-Stopped-clause-carried g c =
    let old = c.args.observer.now in
    let tid = c.args.tid in
    let first = exec_state_of c.args.cpu.now c.args.memory.now c.args.held.now in
    let here = exec_state_of c.steps.cpu c.steps.memory c.steps.held in
    let new = exec_state_of c.run_further.new.cpu c.run_further.new.memory c.run_further.new.held in
    let same = c.run_further.ensures.same ∙ c.steps.invariant.same in
    let run = subst (λ f. Runs g.W.Observer.stands (g.W.Observer.fits old) tid first old c.args.most c.run_further.new.row new c.run_further.new.observer (further_of f)) c.in-Stopped.is
    (subst (λ fits. RunsOn g.W.Observer.stands fits tid c.steps.row here c.steps.observer c.run_further.new.row new c.run_further.new.observer (further_of c.run_further.result)) c.steps.invariant.same c.run_further.ensures.runs first old c.args.most c.steps.invariant.run) in
    made_of_count tid first c.args.most c.run_further.new.row new
    (made_so_far g.W.Observer.stands (g.W.Observer.fits old) (g.W.Observer.steps_fit old) tid first old c.args.most c.run_further.new.row new c.run_further.new.observer run)
    c.made.result c.made.ensures

pub returns-in-Stopped-clause-observed : goal.returns-in-Stopped-clause-observed
returns-in-Stopped-clause-observed g c =
    let old = c.args.observer.now in
    let tid = c.args.tid in
    let first = exec_state_of c.args.cpu.now c.args.memory.now c.args.held.now in
    let here = exec_state_of c.steps.cpu c.steps.memory c.steps.held in
    let new = exec_state_of c.run_further.new.cpu c.run_further.new.memory c.run_further.new.held in
    let same = c.run_further.ensures.same ∙ c.steps.invariant.same in
    let run = subst (λ f. Runs g.W.Observer.stands (g.W.Observer.fits old) tid first old c.args.most c.run_further.new.row new c.run_further.new.observer (further_of f)) c.in-Stopped.is
    (subst (λ fits. RunsOn g.W.Observer.stands fits tid c.steps.row here c.steps.observer c.run_further.new.row new c.run_further.new.observer (further_of c.run_further.result)) c.steps.invariant.same c.run_further.ensures.runs first old c.args.most c.steps.invariant.run) in
    ok_taken _ c.observe_plain.result c.observe_plain.ensures.taken c.observe_plain.ensures.observed (λ observes.
    observed_all g.W.Observer.stands (g.W.Observer.fits old) (g.W.Observer.steps_fit old) tid first old c.args.most c.run_further.new.row new c.run_further.new.observer run
    c.made.result c.plain.result c.made.ensures c.plain.ensures.value c.observe_plain.new.observer
    (subst (λ fits. ObservesAll g.W.Observer.stands fits (steps_of tid c.plain.result) c.run_further.new.observer c.observe_plain.new.observer Taken) same observes))

pub returns-in-Stopped-clause-most : goal.returns-in-Stopped-clause-most
returns-in-Stopped-clause-most g c =
    let old = c.args.observer.now in
    let tid = c.args.tid in
    let first = exec_state_of c.args.cpu.now c.args.memory.now c.args.held.now in
    let here = exec_state_of c.steps.cpu c.steps.memory c.steps.held in
    let new = exec_state_of c.run_further.new.cpu c.run_further.new.memory c.run_further.new.held in
    let same = c.run_further.ensures.same ∙ c.steps.invariant.same in
    let run = subst (λ f. Runs g.W.Observer.stands (g.W.Observer.fits old) tid first old c.args.most c.run_further.new.row new c.run_further.new.observer (further_of f)) c.in-Stopped.is
    (subst (λ fits. RunsOn g.W.Observer.stands fits tid c.steps.row here c.steps.observer c.run_further.new.row new c.run_further.new.observer (further_of c.run_further.result)) c.steps.invariant.same c.run_further.ensures.runs first old c.args.most c.steps.invariant.run) in
    omega (arith, c.made.ensures, run.room, run.within)

pub returns-in-Refused-clause-carried : goal.returns-in-Refused-clause-carried
returns-in-Refused-clause-carried g c =
    let old = c.args.observer.now in
    let tid = c.args.tid in
    let first = exec_state_of c.args.cpu.now c.args.memory.now c.args.held.now in
    let here = exec_state_of c.steps.cpu c.steps.memory c.steps.held in
    let new = exec_state_of c.run_further.new.cpu c.run_further.new.memory c.run_further.new.held in
    let same = c.run_further.ensures.same ∙ c.steps.invariant.same in
    let run = subst (λ f. Runs g.W.Observer.stands (g.W.Observer.fits old) tid first old c.args.most c.run_further.new.row new c.run_further.new.observer (further_of f)) c.in-Refused.is
    (subst (λ fits. RunsOn g.W.Observer.stands fits tid c.steps.row here c.steps.observer c.run_further.new.row new c.run_further.new.observer (further_of c.run_further.result)) c.steps.invariant.same c.run_further.ensures.runs first old c.args.most c.steps.invariant.run) in
    made_of_count tid first c.args.most c.run_further.new.row new run.made c.told.result
    (refused_made g.W.Observer.stands (g.W.Observer.fits old) (g.W.Observer.steps_fit old) tid first old c.args.most c.run_further.new.row new c.run_further.new.observer run
    c.told.result c.told.ensures)

pub returns-in-Refused-clause-observed : goal.returns-in-Refused-clause-observed
returns-in-Refused-clause-observed g c =
    let old = c.args.observer.now in
    let tid = c.args.tid in
    let first = exec_state_of c.args.cpu.now c.args.memory.now c.args.held.now in
    let here = exec_state_of c.steps.cpu c.steps.memory c.steps.held in
    let new = exec_state_of c.run_further.new.cpu c.run_further.new.memory c.run_further.new.held in
    let same = c.run_further.ensures.same ∙ c.steps.invariant.same in
    let run = subst (λ f. Runs g.W.Observer.stands (g.W.Observer.fits old) tid first old c.args.most c.run_further.new.row new c.run_further.new.observer (further_of f)) c.in-Refused.is
    (subst (λ fits. RunsOn g.W.Observer.stands fits tid c.steps.row here c.steps.observer c.run_further.new.row new c.run_further.new.observer (further_of c.run_further.result)) c.steps.invariant.same c.run_further.ensures.runs first old c.args.most c.steps.invariant.run) in
    refused_all g.W.Observer.stands (g.W.Observer.fits old) (g.W.Observer.steps_fit old) tid first old c.args.most c.run_further.new.row new c.run_further.new.observer run
    c.told.result c.told.ensures

pub returns-in-Refused-clause-most : goal.returns-in-Refused-clause-most
returns-in-Refused-clause-most g c =
    let old = c.args.observer.now in
    let tid = c.args.tid in
    let first = exec_state_of c.args.cpu.now c.args.memory.now c.args.held.now in
    let here = exec_state_of c.steps.cpu c.steps.memory c.steps.held in
    let new = exec_state_of c.run_further.new.cpu c.run_further.new.memory c.run_further.new.held in
    let same = c.run_further.ensures.same ∙ c.steps.invariant.same in
    let run = subst (λ f. Runs g.W.Observer.stands (g.W.Observer.fits old) tid first old c.args.most c.run_further.new.row new c.run_further.new.observer (further_of f)) c.in-Refused.is
    (subst (λ fits. RunsOn g.W.Observer.stands fits tid c.steps.row here c.steps.observer c.run_further.new.row new c.run_further.new.observer (further_of c.run_further.result)) c.steps.invariant.same c.run_further.ensures.runs first old c.args.most c.steps.invariant.run) in
    omega (arith, c.told.ensures, run.made.few)

pub returns-in-OutOfMemory-clause-carried : goal.returns-in-OutOfMemory-clause-carried
returns-in-OutOfMemory-clause-carried g c =
    let old = c.args.observer.now in
    let tid = c.args.tid in
    let first = exec_state_of c.args.cpu.now c.args.memory.now c.args.held.now in
    let here = exec_state_of c.steps.cpu c.steps.memory c.steps.held in
    let new = exec_state_of c.run_further.new.cpu c.run_further.new.memory c.run_further.new.held in
    let same = c.run_further.ensures.same ∙ c.steps.invariant.same in
    let run = subst (λ f. Runs g.W.Observer.stands (g.W.Observer.fits old) tid first old c.args.most c.run_further.new.row new c.run_further.new.observer (further_of f)) c.in-OutOfMemory.is
    (subst (λ fits. RunsOn g.W.Observer.stands fits tid c.steps.row here c.steps.observer c.run_further.new.row new c.run_further.new.observer (further_of c.run_further.result)) c.steps.invariant.same c.run_further.ensures.runs first old c.args.most c.steps.invariant.run) in
    made_of_count tid first c.args.most c.run_further.new.row new run c.made-in-OutOfMemory.result c.made-in-OutOfMemory.ensures

pub returns-in-OutOfMemory-clause-most : goal.returns-in-OutOfMemory-clause-most
returns-in-OutOfMemory-clause-most g c =
    let old = c.args.observer.now in
    let tid = c.args.tid in
    let first = exec_state_of c.args.cpu.now c.args.memory.now c.args.held.now in
    let here = exec_state_of c.steps.cpu c.steps.memory c.steps.held in
    let new = exec_state_of c.run_further.new.cpu c.run_further.new.memory c.run_further.new.held in
    let same = c.run_further.ensures.same ∙ c.steps.invariant.same in
    let run = subst (λ f. Runs g.W.Observer.stands (g.W.Observer.fits old) tid first old c.args.most c.run_further.new.row new c.run_further.new.observer (further_of f)) c.in-OutOfMemory.is
    (subst (λ fits. RunsOn g.W.Observer.stands fits tid c.steps.row here c.steps.observer c.run_further.new.row new c.run_further.new.observer (further_of c.run_further.result)) c.steps.invariant.same c.run_further.ensures.runs first old c.args.most c.steps.invariant.run) in
    omega (arith, c.made-in-OutOfMemory.ensures, run.few)

pub observe_plain-requires-2 : goal.observe_plain-requires-2
observe_plain-requires-2 g c = λ some.
    let old = c.args.observer.now in
    let tid = c.args.tid in
    let of = c.plain-2.ensures.value in
    subst (λ fits. MayTakeAll g.W.Observer.stands fits c.steps.observer (steps_of tid c.plain-2.result)) (sym c.steps.invariant.same)
    (subst (λ n. MayTakeAll g.W.Observer.stands (g.W.Observer.fits old) c.steps.observer (steps_of tid n)) (sym of) (c.steps.invariant.run.pending (subst (λ n. 1 ≤ n) of some)))

pub returns-clause-carried : goal.returns-clause-carried
returns-clause-carried g c =
    let old = c.args.observer.now in
    let first = exec_state_of c.args.cpu.now c.args.memory.now c.args.held.now in
    let here = exec_state_of c.steps.cpu c.steps.memory c.steps.held in
    made_of_count c.args.tid first c.args.most c.steps.row here
    (made_so_far g.W.Observer.stands (g.W.Observer.fits old) (g.W.Observer.steps_fit old) c.args.tid first old c.args.most c.steps.row here c.steps.observer c.steps.invariant.run)
    c.made-2.result c.made-2.ensures

pub returns-clause-observed : goal.returns-clause-observed
returns-clause-observed g c =
    let old = c.args.observer.now in
    let tid = c.args.tid in
    let first = exec_state_of c.args.cpu.now c.args.memory.now c.args.held.now in
    let here = exec_state_of c.steps.cpu c.steps.memory c.steps.held in
    ok_taken _ c.observe_plain-2.result c.observe_plain-2.ensures.taken c.observe_plain-2.ensures.observed (λ observes.
    observed_all g.W.Observer.stands (g.W.Observer.fits old) (g.W.Observer.steps_fit old) tid first old c.args.most c.steps.row here c.steps.observer c.steps.invariant.run
    c.made-2.result c.plain-2.result c.made-2.ensures c.plain-2.ensures.value c.observe_plain-2.new.observer
    (subst (λ fits. ObservesAll g.W.Observer.stands fits (steps_of tid c.plain-2.result) c.steps.observer c.observe_plain-2.new.observer Taken) c.steps.invariant.same observes))

pub returns-clause-most : goal.returns-clause-most
returns-clause-most g c = omega (arith, c.made-2.ensures, c.steps.invariant.run.room, c.steps.invariant.run.within)
