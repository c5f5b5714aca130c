use Rattle.std.proofs.Common.{◌≡◌, ◌≤◌, ◌<◌, ◌+◌, Ok, ap, refl, subst, sym, ◌∙◌, arith}
use Rattle.rv_exec.specs.Effects.{exec_state_of}
use Rattle.rv_exec.specs.Registers.{with_pc}
use Rattle.trace_model.specs.declared.observer.Observed.TheVariants.{Taken}
use Rattle.guest_machine.specs.declared.rows.Tried.{Tried}
use Rattle.guest_machine.specs.Private.Rows.{MayRun, Row, answer_of, handed, tried_answer, tried_row}
use Rattle.guest_machine.proofs.NextSteps.{runs_as, runs_then}
use Rattle.guest_machine.proofs.RowOfSteps.{handed_grows, handed_whole}
use Rattle.guest_machine.proofs.rows.run_load.Goals as goal

pub returns-in-Taken : goal.returns-in-Taken
returns-in-Taken g c =
    let is : c.try_load.new.row ≡ handed c.args.row.now = c.try_load.ensures.row ∙ ap (tried_row c.args.row.now) c.in-Taken.is in
    record {
      runs = λ held.
          let old = c.args.observer.now in
          runs_as g.W.Observer.stands (g.W.Observer.fits old) c.args.tid c.args.row.now (exec_state_of (with_pc c.args.pc.now c.args.cpu.now) c.args.memory.now held) old
          c.try_load.new.row (exec_state_of (with_pc c.try_load.new.pc c.try_load.new.cpu) c.args.memory.now held) c.try_load.new.observer
          (tried_answer c.try_load.result) (tried_answer Tried.Taken) (ap tried_answer c.in-Taken.is) (c.try_load.ensures.runs held);
      next = tt;
      grows = omega (arith, handed_grows c.args.row.now c.try_load.new.row is);
      further = λ went. handed_grows c.args.row.now c.try_load.new.row is;
      whole = handed_whole c.args.row.now c.try_load.new.row is c.requires.within;
      same = c.try_load.ensures.same;
    }

pub returns-in-Refused : goal.returns-in-Refused
returns-in-Refused g c =
    let is : c.try_load.new.row ≡ handed c.args.row.now = c.try_load.ensures.row ∙ ap (tried_row c.args.row.now) c.in-Refused.is in
    record {
      runs = λ held.
          let old = c.args.observer.now in
          runs_as g.W.Observer.stands (g.W.Observer.fits old) c.args.tid c.args.row.now (exec_state_of (with_pc c.args.pc.now c.args.cpu.now) c.args.memory.now held) old
          c.try_load.new.row (exec_state_of (with_pc c.try_load.new.pc c.try_load.new.cpu) c.args.memory.now held) c.try_load.new.observer
          (tried_answer c.try_load.result) (tried_answer Tried.Refused) (ap tried_answer c.in-Refused.is) (c.try_load.ensures.runs held);
      next = tt;
      grows = omega (arith, handed_grows c.args.row.now c.try_load.new.row is);
      further = λ went. absurd {A = c.args.row.now.told + c.args.row.now.plain < c.try_load.new.row.told + c.try_load.new.row.plain} (cc);
      whole = handed_whole c.args.row.now c.try_load.new.row is c.requires.within;
      same = c.try_load.ensures.same;
    }

pub returns-in-OutOfMemory : goal.returns-in-OutOfMemory
returns-in-OutOfMemory g c =
    let is : c.try_load.new.row ≡ handed c.args.row.now = c.try_load.ensures.row ∙ ap (tried_row c.args.row.now) c.in-OutOfMemory.is in
    record {
      runs = λ held.
          let old = c.args.observer.now in
          runs_as g.W.Observer.stands (g.W.Observer.fits old) c.args.tid c.args.row.now (exec_state_of (with_pc c.args.pc.now c.args.cpu.now) c.args.memory.now held) old
          c.try_load.new.row (exec_state_of (with_pc c.try_load.new.pc c.try_load.new.cpu) c.args.memory.now held) c.try_load.new.observer
          (tried_answer c.try_load.result) (tried_answer Tried.OutOfMemory) (ap tried_answer c.in-OutOfMemory.is) (c.try_load.ensures.runs held);
      next = tt;
      grows = omega (arith, handed_grows c.args.row.now c.try_load.new.row is);
      further = λ went. absurd {A = c.args.row.now.told + c.args.row.now.plain < c.try_load.new.row.told + c.try_load.new.row.plain} (cc);
      whole = handed_whole c.args.row.now c.try_load.new.row is c.requires.within;
      same = c.try_load.ensures.same;
    }

pub run_any_load-requires : goal.run_any_load-requires
run_any_load-requires g c =
    let held = c.requires.run.0 in
    let r = c.requires.run.1 in
    let still : c.try_load.new.row ≡ c.args.row.now = c.try_load.ensures.row ∙ ap (tried_row c.args.row.now) c.in-Declined.is in
    let old = c.args.observer.now in
    let tid = c.args.tid in
    let fits = g.W.Observer.fits old in
    let here = exec_state_of (with_pc c.args.pc.now c.args.cpu.now) c.args.memory.now held in
    let there = exec_state_of (with_pc c.try_load.new.pc c.try_load.new.cpu) c.args.memory.now held in
    let on = runs_as g.W.Observer.stands fits tid c.args.row.now here old c.try_load.new.row there c.try_load.new.observer
    (tried_answer c.try_load.result) (Ok Taken) (ap tried_answer c.in-Declined.is) (c.try_load.ensures.runs held) in
    record {
      known = c.try_load.ensures.again c.in-Declined.is;
      run = (
        held,
        subst (λ f. MayRun g.W.Observer.stands f tid c.try_load.new.row there c.try_load.new.observer) (sym c.try_load.ensures.same)
            (record { first = r.first; old = r.old; most = r.most; run = on r.first r.old r.most r.run }),
      );
      within = subst (λ (row : Row). row.plain < row.left) (sym still) c.requires.within;
    }

pub returns-in-Declined : goal.returns-in-Declined
returns-in-Declined g c =
    let still : c.try_load.new.row ≡ c.args.row.now = c.try_load.ensures.row ∙ ap (tried_row c.args.row.now) c.in-Declined.is in
    let there = c.run_any_load.new.row in
    record {
      runs = λ held.
          let old = c.args.observer.now in
          let tid = c.args.tid in
          let fits = g.W.Observer.fits old in
          let here = exec_state_of (with_pc c.args.pc.now c.args.cpu.now) c.args.memory.now held in
          let there = exec_state_of (with_pc c.try_load.new.pc c.try_load.new.cpu) c.args.memory.now held in
          let on = runs_as g.W.Observer.stands fits tid c.args.row.now here old c.try_load.new.row there c.try_load.new.observer
          (tried_answer c.try_load.result) (Ok Taken) (ap tried_answer c.in-Declined.is) (c.try_load.ensures.runs held) in
          runs_then g.W.Observer.stands fits (g.W.Observer.fits c.try_load.new.observer) c.try_load.ensures.same tid c.args.row.now here old
          c.try_load.new.row there c.try_load.new.observer on c.run_any_load.new.row
          (exec_state_of (with_pc c.run_any_load.new.pc c.run_any_load.new.cpu) c.args.memory.now held) c.run_any_load.new.observer
          (answer_of c.run_any_load.result) (answer_of c.run_any_load.result) refl (c.run_any_load.ensures.runs held);
      next = c.run_any_load.ensures.next;
      grows = subst (λ (r : Row). r.told + r.plain ≤ there.told + there.plain) still c.run_any_load.ensures.grows;
      further = λ went. subst (λ (r : Row). r.told + r.plain < there.told + there.plain) still (c.run_any_load.ensures.further went);
      whole = c.run_any_load.ensures.whole ∙ ap (λ (r : Row). r.told + r.left) still;
      same = c.run_any_load.ensures.same ∙ c.try_load.ensures.same;
    }
