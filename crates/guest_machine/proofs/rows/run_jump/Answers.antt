use Rattle.std.proofs.Common.{◌≡◌, ◌<◌, ◌+◌, ◌%◌, ◌^◌, Ok, Err, ap, refl, subst, sym, ◌∙◌, arith}
use Rattle.std.specs.Allocator.{alloc_error}
use Rattle.rv_exec.specs.Effects.{ExecState, exec_state_of, linked}
use Rattle.rv_exec.specs.Registers.{with_pc}
use Rattle.rv_exec.specs.declared.outcome.Outcome.TheVariants.{Went}
use Rattle.trace_model.specs.declared.observer.Observed.TheVariants.{Refused, Taken}
use Rattle.trace_model.specs.Observing.{result_of}
use Rattle.guest_machine.specs.declared.stepped.Advanced.TheVariants.{Jumped, Ran}
use Rattle.guest_machine.specs.Private.Carrying.{IsStepOf}
use Rattle.guest_machine.specs.Private.Rows.{HasRun, Row}
use Rattle.guest_machine.proofs.JumpSteps.{jump_kept, jump_step, link_step}
use Rattle.guest_machine.proofs.RowOfSteps.{handed_grows, handed_whole, may_hand, runs_plainly, runs_to}
use Rattle.guest_machine.proofs.rows.run_jump.Goals as goal

pub returns-in_default : goal.returns-in_default
returns-in_default g c =
    record {
      runs = λ held first began most run.
          let old = c.args.observer.now in
          let known = c.requires.known in
          let kept = jump_kept c.args.tid c.args.pc.now c.args.cpu.now c.jump_and_link.new.pc c.jump_and_link.new.cpu c.args.memory.now held
          known.0 c.args.rd c.args.target c.args.jump known.1 known.2 c.jump_and_link.result c.jump_and_link.ensures c.in_default.not-Went in
          subst (λ (s : ExecState). HasRun g.W.Observer.stands (g.W.Observer.fits old) c.args.tid first began most c.args.row.now s old) (sym kept) run;
      next = tt;
      grows = omega arith;
      further = λ went. absurd {A = c.args.row.now.told + c.args.row.now.plain < c.args.row.now.told + c.args.row.now.plain} (cc);
      whole = refl;
      same = refl;
    }

pub returns-in-Nothing : goal.returns-in-Nothing
returns-in-Nothing g c =
    let passed : c.pass.new.self.told + c.pass.new.self.plain ≡ c.args.row.now.told + (c.args.row.now.plain + 1) = ap (λ (r : Row). r.told + r.plain) c.pass.ensures in
    record {
      runs = λ held first began most run.
          let old = c.args.observer.now in
          let tid = c.args.tid in
          let here = exec_state_of (with_pc c.args.pc.now c.args.cpu.now) c.args.memory.now held in
          let new = exec_state_of (with_pc c.jump_and_link.new.pc c.jump_and_link.new.cpu) c.args.memory.now held in
          let known = c.requires.known in
          let went : (Went c.in-Went.access, with_pc c.jump_and_link.new.pc c.jump_and_link.new.cpu) ≡ linked c.args.rd c.args.target (with_pc c.args.pc.now c.args.cpu.now)
          = ap (λ o. (o, with_pc c.jump_and_link.new.pc c.jump_and_link.new.cpu)) (sym c.in-Went.is) ∙ c.jump_and_link.ensures in
          let step : IsStepOf here new tid Ran = link_step tid c.args.pc.now c.args.cpu.now c.jump_and_link.new.pc c.jump_and_link.new.cpu c.args.memory.now held
          known.0 c.args.rd c.args.target c.args.jump known.1 known.2 c.in-Went.access went c.in-Nothing.is in
          subst (λ (row : Row). HasRun g.W.Observer.stands (g.W.Observer.fits old) tid first began most row new old) (sym c.pass.ensures)
          (runs_plainly g.W.Observer.stands (g.W.Observer.fits old) (g.W.Observer.steps_fit old) tid first began most c.args.row.now here old run c.requires.within
          new step);
      next = tt;
      grows = omega (arith, passed);
      further = λ went. omega (arith, passed);
      whole = ap (λ (r : Row). r.told + r.left) c.pass.ensures;
      same = refl;
    }

pub hand_jump-requires : goal.hand_jump-requires
hand_jump-requires g c =
    let held = c.requires.run.0 in
    let r = c.requires.run.1 in
    let old = c.args.observer.now in
    let tid = c.args.tid in
    let here = exec_state_of (with_pc c.args.pc.now c.args.cpu.now) c.args.memory.now held in
    let new = exec_state_of (with_pc c.jump_and_link.new.pc c.jump_and_link.new.cpu) c.args.memory.now held in
    let known = c.requires.known in
    let went : (Went c.in-Went.access, with_pc c.jump_and_link.new.pc c.jump_and_link.new.cpu) ≡ linked c.args.rd c.args.target (with_pc c.args.pc.now c.args.cpu.now)
    = ap (λ o. (o, with_pc c.jump_and_link.new.pc c.jump_and_link.new.cpu)) (sym c.in-Went.is) ∙ c.jump_and_link.ensures in
    let step : IsStepOf here new tid (Jumped c.args.jump c.args.target ((c.address-back.result + 4) % 2 ^ 32))
    = jump_step tid c.args.pc.now c.args.cpu.now c.jump_and_link.new.pc c.jump_and_link.new.cpu c.args.memory.now held
    known.0 c.args.rd c.args.target c.args.jump known.1 known.2 c.in-Went.access went ((c.address-back.result + 4) % 2 ^ 32)
    (ap (λ n. (n + 4) % 2 ^ 32) c.address-back.ensures) in
    record {
      within = c.requires.within;
      next = may_hand g.W.Observer.stands (g.W.Observer.fits old) (g.W.Observer.steps_fit old) tid r.first r.old r.most c.args.row.now here old r.run
          c.requires.within new (Jumped c.args.jump c.args.target ((c.address-back.result + 4) % 2 ^ 32)) step;
    }

pub returns-in-Taken : goal.returns-in-Taken
returns-in-Taken g c =
    record {
      runs = λ held first began most run.
          let old = c.args.observer.now in
          let tid = c.args.tid in
          let here = exec_state_of (with_pc c.args.pc.now c.args.cpu.now) c.args.memory.now held in
          let new = exec_state_of (with_pc c.jump_and_link.new.pc c.jump_and_link.new.cpu) c.args.memory.now held in
          let known = c.requires.known in
          let went : (Went c.in-Went.access, with_pc c.jump_and_link.new.pc c.jump_and_link.new.cpu) ≡ linked c.args.rd c.args.target (with_pc c.args.pc.now c.args.cpu.now)
          = ap (λ o. (o, with_pc c.jump_and_link.new.pc c.jump_and_link.new.cpu)) (sym c.in-Went.is) ∙ c.jump_and_link.ensures in
          let step : IsStepOf here new tid (Jumped c.args.jump c.args.target ((c.address-back.result + 4) % 2 ^ 32))
          = jump_step tid c.args.pc.now c.args.cpu.now c.jump_and_link.new.pc c.jump_and_link.new.cpu c.args.memory.now held
          known.0 c.args.rd c.args.target c.args.jump known.1 known.2 c.in-Went.access went ((c.address-back.result + 4) % 2 ^ 32)
          (ap (λ n. (n + 4) % 2 ^ 32) c.address-back.ensures) in
          runs_to g.W.Observer.stands (g.W.Observer.fits old) (g.W.Observer.steps_fit old) tid first began most c.args.row.now here old run c.requires.within
          new (Jumped c.args.jump c.args.target ((c.address-back.result + 4) % 2 ^ 32)) step c.hand_jump.new.row c.hand_jump.ensures.row
          (result_of c.hand_jump.result) (Ok Taken) (ap result_of c.in-Taken.is) c.hand_jump.new.observer c.hand_jump.ensures.observed;
      next = tt;
      grows = omega (arith, handed_grows c.args.row.now c.hand_jump.new.row c.hand_jump.ensures.row);
      further = λ went. handed_grows c.args.row.now c.hand_jump.new.row c.hand_jump.ensures.row;
      whole = handed_whole c.args.row.now c.hand_jump.new.row c.hand_jump.ensures.row c.requires.within;
      same = c.hand_jump.ensures.same;
    }

pub returns-in-Refused : goal.returns-in-Refused
returns-in-Refused g c =
    record {
      runs = λ held first began most run.
          let old = c.args.observer.now in
          let tid = c.args.tid in
          let here = exec_state_of (with_pc c.args.pc.now c.args.cpu.now) c.args.memory.now held in
          let new = exec_state_of (with_pc c.jump_and_link.new.pc c.jump_and_link.new.cpu) c.args.memory.now held in
          let known = c.requires.known in
          let went : (Went c.in-Went.access, with_pc c.jump_and_link.new.pc c.jump_and_link.new.cpu) ≡ linked c.args.rd c.args.target (with_pc c.args.pc.now c.args.cpu.now)
          = ap (λ o. (o, with_pc c.jump_and_link.new.pc c.jump_and_link.new.cpu)) (sym c.in-Went.is) ∙ c.jump_and_link.ensures in
          let step : IsStepOf here new tid (Jumped c.args.jump c.args.target ((c.address-back.result + 4) % 2 ^ 32))
          = jump_step tid c.args.pc.now c.args.cpu.now c.jump_and_link.new.pc c.jump_and_link.new.cpu c.args.memory.now held
          known.0 c.args.rd c.args.target c.args.jump known.1 known.2 c.in-Went.access went ((c.address-back.result + 4) % 2 ^ 32)
          (ap (λ n. (n + 4) % 2 ^ 32) c.address-back.ensures) in
          runs_to g.W.Observer.stands (g.W.Observer.fits old) (g.W.Observer.steps_fit old) tid first began most c.args.row.now here old run c.requires.within
          new (Jumped c.args.jump c.args.target ((c.address-back.result + 4) % 2 ^ 32)) step c.hand_jump.new.row c.hand_jump.ensures.row
          (result_of c.hand_jump.result) (Ok Refused) (ap result_of c.in-Refused.is) c.hand_jump.new.observer c.hand_jump.ensures.observed;
      next = tt;
      grows = omega (arith, handed_grows c.args.row.now c.hand_jump.new.row c.hand_jump.ensures.row);
      further = λ went. absurd {A = c.args.row.now.told + c.args.row.now.plain < c.hand_jump.new.row.told + c.hand_jump.new.row.plain} (cc);
      whole = handed_whole c.args.row.now c.hand_jump.new.row c.hand_jump.ensures.row c.requires.within;
      same = c.hand_jump.ensures.same;
    }

pub returns-in-OutOfMemory : goal.returns-in-OutOfMemory
returns-in-OutOfMemory g c =
    record {
      runs = λ held first began most run.
          let old = c.args.observer.now in
          let tid = c.args.tid in
          let here = exec_state_of (with_pc c.args.pc.now c.args.cpu.now) c.args.memory.now held in
          let new = exec_state_of (with_pc c.jump_and_link.new.pc c.jump_and_link.new.cpu) c.args.memory.now held in
          let known = c.requires.known in
          let went : (Went c.in-Went.access, with_pc c.jump_and_link.new.pc c.jump_and_link.new.cpu) ≡ linked c.args.rd c.args.target (with_pc c.args.pc.now c.args.cpu.now)
          = ap (λ o. (o, with_pc c.jump_and_link.new.pc c.jump_and_link.new.cpu)) (sym c.in-Went.is) ∙ c.jump_and_link.ensures in
          let step : IsStepOf here new tid (Jumped c.args.jump c.args.target ((c.address-back.result + 4) % 2 ^ 32))
          = jump_step tid c.args.pc.now c.args.cpu.now c.jump_and_link.new.pc c.jump_and_link.new.cpu c.args.memory.now held
          known.0 c.args.rd c.args.target c.args.jump known.1 known.2 c.in-Went.access went ((c.address-back.result + 4) % 2 ^ 32)
          (ap (λ n. (n + 4) % 2 ^ 32) c.address-back.ensures) in
          runs_to g.W.Observer.stands (g.W.Observer.fits old) (g.W.Observer.steps_fit old) tid first began most c.args.row.now here old run c.requires.within
          new (Jumped c.args.jump c.args.target ((c.address-back.result + 4) % 2 ^ 32)) step c.hand_jump.new.row c.hand_jump.ensures.row
          (result_of c.hand_jump.result) (Err alloc_error) (ap result_of c.in-OutOfMemory.is) c.hand_jump.new.observer c.hand_jump.ensures.observed;
      next = tt;
      grows = omega (arith, handed_grows c.args.row.now c.hand_jump.new.row c.hand_jump.ensures.row);
      further = λ went. absurd {A = c.args.row.now.told + c.args.row.now.plain < c.hand_jump.new.row.told + c.hand_jump.new.row.plain} (cc);
      whole = handed_whole c.args.row.now c.hand_jump.new.row c.hand_jump.ensures.row c.requires.within;
      same = c.hand_jump.ensures.same;
    }
