use Rattle.std.proofs.Common.{◌≡◌, ◌≤◌, ◌<◌, ◌+◌, ap, subst, sym, arith}
use Rattle.rv_exec.specs.Effects.{exec_state_of}
use Rattle.rv_exec.specs.Registers.{with_pc}
use Rattle.guest_machine.specs.declared.making.Made.{Made}
use Rattle.guest_machine.specs.declared.making.Made.TheVariants as made
use Rattle.guest_machine.specs.declared.rows.Further.TheVariants as further
use Rattle.guest_machine.specs.Private.Making.{Makes, MayMake, made_row}
use Rattle.guest_machine.specs.Private.Rows.{Row, further_of}
use Rattle.guest_machine.proofs.MadeSteps.{counted, may_make}
use Rattle.guest_machine.proofs.NextSteps.{runs_as}
use Rattle.guest_machine.proofs.RowOfSteps.{handed_grows, handed_whole}
use Rattle.guest_machine.proofs.rows.run_any_load.Goals as goal

-- the row of a load that was made, or faults
made_grows : (row new : Row) (m : Made) → new ≡ made_row row m → row.told + row.plain ≤ new.told + new.plain
made_grows row new made.Taken is = omega (arith, handed_grows row new is)
made_grows row new made.Refused is = omega (arith, handed_grows row new is)
made_grows row new made.OutOfMemory is = omega (arith, handed_grows row new is)
made_grows row new made.Stops is = subst (λ (r : Row). row.told + row.plain ≤ r.told + r.plain) (sym is) (omega arith)

made_whole : (row new : Row) (m : Made) → new ≡ made_row row m → row.plain < row.left → new.told + new.left ≡ row.told + row.left
made_whole row new made.Taken is low = handed_whole row new is low
made_whole row new made.Refused is low = handed_whole row new is low
made_whole row new made.OutOfMemory is low = handed_whole row new is low
made_whole row new made.Stops is low = ap (λ (r : Row). r.told + r.left) is

pub make_load-made-requires-clause-may : goal.make_load-made-requires-clause-may
make_load-made-requires-clause-may g c =
    let held = c.requires.run.0 in
    let r = c.requires.run.1 in
    let old = c.args.observer.now in
    let here = exec_state_of (with_pc c.args.pc.now c.args.cpu.now) c.args.memory.now held in (
      held,
      subst (λ n. MayMake g.W.Observer.stands (g.W.Observer.fits old) c.args.tid n here old) (sym c.due-steps.ensures)
          (may_make g.W.Observer.stands (g.W.Observer.fits old) c.args.tid c.args.row.now c.requires.within here old r.first r.old r.most r.run),
    )

pub returns-in-Went : goal.returns-in-Went
returns-in-Went g c =
    record {
      runs = λ held.
          let old = c.args.observer.now in
          let tid = c.args.tid in
          let here = exec_state_of (with_pc c.args.pc.now c.args.cpu.now) c.args.memory.now held in
          let new = exec_state_of (with_pc c.make_load-made.new.pc c.make_load-made.new.cpu) c.args.memory.now held in
          let makes = subst (λ n. Makes g.W.Observer.stands (g.W.Observer.fits old) tid n here old new c.make_load-made.new.observer c.make_load-made.result)
          c.due-steps.ensures (c.make_load-made.ensures.made held) in
          runs_as g.W.Observer.stands (g.W.Observer.fits old) tid c.args.row.now here old c.count_made.new.row new c.make_load-made.new.observer
          (further_of c.count_made.result) (further_of further.Went) (ap further_of c.in-Went.is)
          (counted g.W.Observer.stands (g.W.Observer.fits old) tid c.args.row.now c.requires.within here old new c.make_load-made.new.observer
          c.make_load-made.result makes c.count_made.new.row c.count_made.ensures.row c.count_made.result c.count_made.ensures.further);
      next = tt;
      grows = made_grows c.args.row.now c.count_made.new.row c.make_load-made.result c.count_made.ensures.row;
      further = λ went. c.count_made.ensures.grows c.in-Went.is;
      whole = made_whole c.args.row.now c.count_made.new.row c.make_load-made.result c.count_made.ensures.row c.requires.within;
      same = c.make_load-made.ensures.same;
    }

pub returns-in-Refused : goal.returns-in-Refused
returns-in-Refused g c =
    record {
      runs = λ held.
          let old = c.args.observer.now in
          let tid = c.args.tid in
          let here = exec_state_of (with_pc c.args.pc.now c.args.cpu.now) c.args.memory.now held in
          let new = exec_state_of (with_pc c.make_load-made.new.pc c.make_load-made.new.cpu) c.args.memory.now held in
          let makes = subst (λ n. Makes g.W.Observer.stands (g.W.Observer.fits old) tid n here old new c.make_load-made.new.observer c.make_load-made.result)
          c.due-steps.ensures (c.make_load-made.ensures.made held) in
          runs_as g.W.Observer.stands (g.W.Observer.fits old) tid c.args.row.now here old c.count_made.new.row new c.make_load-made.new.observer
          (further_of c.count_made.result) (further_of further.Refused) (ap further_of c.in-Refused.is)
          (counted g.W.Observer.stands (g.W.Observer.fits old) tid c.args.row.now c.requires.within here old new c.make_load-made.new.observer
          c.make_load-made.result makes c.count_made.new.row c.count_made.ensures.row c.count_made.result c.count_made.ensures.further);
      next = tt;
      grows = made_grows c.args.row.now c.count_made.new.row c.make_load-made.result c.count_made.ensures.row;
      further = λ went. absurd {A = c.args.row.now.told + c.args.row.now.plain < c.count_made.new.row.told + c.count_made.new.row.plain} (cc);
      whole = made_whole c.args.row.now c.count_made.new.row c.make_load-made.result c.count_made.ensures.row c.requires.within;
      same = c.make_load-made.ensures.same;
    }

pub returns-in-Stopped : goal.returns-in-Stopped
returns-in-Stopped g c =
    record {
      runs = λ held.
          let old = c.args.observer.now in
          let tid = c.args.tid in
          let here = exec_state_of (with_pc c.args.pc.now c.args.cpu.now) c.args.memory.now held in
          let new = exec_state_of (with_pc c.make_load-made.new.pc c.make_load-made.new.cpu) c.args.memory.now held in
          let makes = subst (λ n. Makes g.W.Observer.stands (g.W.Observer.fits old) tid n here old new c.make_load-made.new.observer c.make_load-made.result)
          c.due-steps.ensures (c.make_load-made.ensures.made held) in
          runs_as g.W.Observer.stands (g.W.Observer.fits old) tid c.args.row.now here old c.count_made.new.row new c.make_load-made.new.observer
          (further_of c.count_made.result) (further_of further.Stopped) (ap further_of c.in-Stopped.is)
          (counted g.W.Observer.stands (g.W.Observer.fits old) tid c.args.row.now c.requires.within here old new c.make_load-made.new.observer
          c.make_load-made.result makes c.count_made.new.row c.count_made.ensures.row c.count_made.result c.count_made.ensures.further);
      next = tt;
      grows = made_grows c.args.row.now c.count_made.new.row c.make_load-made.result c.count_made.ensures.row;
      further = λ went. absurd {A = c.args.row.now.told + c.args.row.now.plain < c.count_made.new.row.told + c.count_made.new.row.plain} (cc);
      whole = made_whole c.args.row.now c.count_made.new.row c.make_load-made.result c.count_made.ensures.row c.requires.within;
      same = c.make_load-made.ensures.same;
    }

pub returns-in-OutOfMemory : goal.returns-in-OutOfMemory
returns-in-OutOfMemory g c =
    record {
      runs = λ held.
          let old = c.args.observer.now in
          let tid = c.args.tid in
          let here = exec_state_of (with_pc c.args.pc.now c.args.cpu.now) c.args.memory.now held in
          let new = exec_state_of (with_pc c.make_load-made.new.pc c.make_load-made.new.cpu) c.args.memory.now held in
          let makes = subst (λ n. Makes g.W.Observer.stands (g.W.Observer.fits old) tid n here old new c.make_load-made.new.observer c.make_load-made.result)
          c.due-steps.ensures (c.make_load-made.ensures.made held) in
          runs_as g.W.Observer.stands (g.W.Observer.fits old) tid c.args.row.now here old c.count_made.new.row new c.make_load-made.new.observer
          (further_of c.count_made.result) (further_of further.OutOfMemory) (ap further_of c.in-OutOfMemory.is)
          (counted g.W.Observer.stands (g.W.Observer.fits old) tid c.args.row.now c.requires.within here old new c.make_load-made.new.observer
          c.make_load-made.result makes c.count_made.new.row c.count_made.ensures.row c.count_made.result c.count_made.ensures.further);
      next = tt;
      grows = made_grows c.args.row.now c.count_made.new.row c.make_load-made.result c.count_made.ensures.row;
      further = λ went. absurd {A = c.args.row.now.told + c.args.row.now.plain < c.count_made.new.row.told + c.count_made.new.row.plain} (cc);
      whole = made_whole c.args.row.now c.count_made.new.row c.make_load-made.result c.count_made.ensures.row c.requires.within;
      same = c.make_load-made.ensures.same;
    }
