use Rattle.std.proofs.Common.{Ok, Err, ap, subst, sym}
use Rattle.std.specs.Allocator.{alloc_error}
use Rattle.trace_model.specs.declared.observer.Observed.TheVariants.{Refused, Taken}
use Rattle.trace_model.specs.Observing.{result_of}
use Rattle.guest_machine.specs.Private.Carrying.{IsStepOf}
use Rattle.guest_machine.specs.Private.Rows.{HasRun, IsNext}
use Rattle.guest_machine.specs.Told.{IsInstruction}
use Rattle.guest_machine.proofs.RowOfSteps.{handed_grows, may_hand, runs_plainly, runs_to}
use Rattle.guest_machine.proofs.rows.count_next.Goals as goal

pub hand_step-requires : goal.hand_step-requires
hand_step-requires g c =
    let old = c.args.observer.now in
    let tid = c.args.tid in
    let s = c.requires.step in
    let r = s.run in
    let went : IsStepOf s.here s.there tid c.in-Some.acted × IsInstruction c.in-Some.acted = subst (IsNext s.here s.there tid) c.in-Some.is s.step in
    record {
      instruction = went.1;
      within = c.requires.within;
      next = may_hand g.W.Observer.stands (g.W.Observer.fits old) (g.W.Observer.steps_fit old) tid r.first r.old r.most c.args.row.now s.here old r.run c.requires.within s.there c.in-Some.acted went.0;
    }

pub returns-in-Some-Ran-clause-counts : goal.returns-in-Some-Ran-clause-counts
returns-in-Some-Ran-clause-counts g c = λ here there next first began most run.
    let old = c.args.observer.now in
    let tid = c.args.tid in
    let went : IsStepOf here there tid c.in-Some-Ran.field-0 × IsInstruction c.in-Some-Ran.field-0 = subst (IsNext here there tid) c.in-Some-Ran.is next in
    subst (λ row. HasRun g.W.Observer.stands (g.W.Observer.fits old) tid first began most row there old) (sym c.pass.ensures)
    (runs_plainly g.W.Observer.stands (g.W.Observer.fits old) (g.W.Observer.steps_fit old) tid first began most c.args.row.now here old run c.requires.within there
    (subst (IsStepOf here there tid) c.in-Some-Ran.field-0-is went.0))

pub returns-in-Taken : goal.returns-in-Taken
returns-in-Taken g c =
    let old = c.args.observer.now in
    let tid = c.args.tid in
    record {
      counts = λ here there next first began most run.
          let went : IsStepOf here there tid c.in-Some.acted × IsInstruction c.in-Some.acted = subst (IsNext here there tid) c.in-Some.is next in
          runs_to g.W.Observer.stands (g.W.Observer.fits old) (g.W.Observer.steps_fit old) tid first began most c.args.row.now here old run c.requires.within there
          c.in-Some.acted went.0 c.hand_step.new.row c.hand_step.ensures.row (result_of c.hand_step.result) (Ok Taken) (ap result_of c.in-Taken.is) c.hand_step.new.observer c.hand_step.ensures.observed;
      grows = λ went. handed_grows c.args.row.now c.hand_step.new.row c.hand_step.ensures.row;
      same = c.hand_step.ensures.same;
    }

pub returns-in-Refused : goal.returns-in-Refused
returns-in-Refused g c =
    let old = c.args.observer.now in
    let tid = c.args.tid in
    record {
      counts = λ here there next first began most run.
          let went : IsStepOf here there tid c.in-Some.acted × IsInstruction c.in-Some.acted = subst (IsNext here there tid) c.in-Some.is next in
          runs_to g.W.Observer.stands (g.W.Observer.fits old) (g.W.Observer.steps_fit old) tid first began most c.args.row.now here old run c.requires.within there
          c.in-Some.acted went.0 c.hand_step.new.row c.hand_step.ensures.row (result_of c.hand_step.result) (Ok Refused) (ap result_of c.in-Refused.is) c.hand_step.new.observer c.hand_step.ensures.observed;
      grows = λ went. handed_grows c.args.row.now c.hand_step.new.row c.hand_step.ensures.row;
      same = c.hand_step.ensures.same;
    }

pub returns-in-OutOfMemory : goal.returns-in-OutOfMemory
returns-in-OutOfMemory g c =
    let old = c.args.observer.now in
    let tid = c.args.tid in
    record {
      counts = λ here there next first began most run.
          let went : IsStepOf here there tid c.in-Some.acted × IsInstruction c.in-Some.acted = subst (IsNext here there tid) c.in-Some.is next in
          runs_to g.W.Observer.stands (g.W.Observer.fits old) (g.W.Observer.steps_fit old) tid first began most c.args.row.now here old run c.requires.within there
          c.in-Some.acted went.0 c.hand_step.new.row c.hand_step.ensures.row (result_of c.hand_step.result) (Err alloc_error) (ap result_of c.in-OutOfMemory.is) c.hand_step.new.observer c.hand_step.ensures.observed;
      grows = λ went. absurd (cc);
      same = c.hand_step.ensures.same;
    }
