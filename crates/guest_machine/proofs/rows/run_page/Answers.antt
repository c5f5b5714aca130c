use Rattle.std.proofs.Common.{◌≡◌, ℕ, Bool, List, ◌+◌, ◌*◌, ◌%◌, ◌^◌, Ok, IfSome, sym, ap, subst, ◌∙◌, arith}
use Rattle.guest_memory.specs.Code.{IsInstructionAt, known_of}
use Rattle.guest_memory.specs.ReservedBy.{reserved_by}
use Rattle.guest_memory.specs.declared.memory.GuestMemory.{GuestMemory}
use Rattle.guest_memory.specs.declared.reservations.Reservations.{Reservations}
use Rattle.guest_memory.specs.Guest.{memory_of}
use Rattle.rv_exec.specs.Effects.{exec_state_of}
use Rattle.rv_exec.specs.Registers.{Registers, with_pc}
use Rattle.trace_model.specs.declared.event_kinds.Event.{Event}
use Rattle.trace_model.specs.declared.observer.Observed.TheVariants.{Taken}
use Rattle.guest_machine.specs.declared.rows.Paused.TheVariants as paused
use Rattle.guest_machine.specs.Private.Rows.{HasRun, MayRun, Row, RunsOn, answer_of}
use Rattle.guest_machine.proofs.NextSteps.{runs_then}
use Rattle.guest_machine.proofs.PlainSteps.{plain_quiet, stands_at, step_plain}
use Rattle.guest_machine.proofs.RowOfSteps.{runs_plainly}
use Rattle.guest_machine.proofs.rows.run_page.Goals as goal

-- what did not go leaves the row where it was
stayed : {O : Type 0} (Stands : O → List Event → Type 0) (fits : List Event → Bool) (tid : ℕ) (row : Row) (begun : Registers) (old : O) (now_row : Row)
    (here there : Registers) (memory : GuestMemory) (held : Reservations) (now : O) → there ≡ here
    → RunsOn Stands fits tid row (exec_state_of begun memory held) old now_row (exec_state_of here memory held) now (Ok Taken)
    → RunsOn Stands fits tid row (exec_state_of begun memory held) old now_row (exec_state_of there memory held) now (Ok Taken)
stayed {O} Stands fits tid row begun old now_row here there memory held now same runs =
    subst (λ (r : Registers). RunsOn Stands fits tid row (exec_state_of begun memory held) old now_row (exec_state_of r memory held) now (Ok Taken)) (sym same) runs

pub steps-preserved-then-execute_plain : goal.steps-preserved-then-execute_plain
steps-preserved-then-execute_plain g c =
    let old = c.args.observer.now in
    let tid = c.args.tid in
    let m = memory_of c.args.memory.now in
    let here = exec_state_of (with_pc c.steps.pc c.steps.cpu) c.args.memory.now c.args.held.now in
    let new = exec_state_of (with_pc c.execute_plain.new.pc c.execute_plain.new.cpu) c.args.memory.now c.args.held.now in
    let goes = c.execute_plain.ensures.goes c.if-execute_plain.true in
    let i = goes.instruction in
    let known = stands_at m ((c.args.first + 4 * c.in-Some.word) % 2 ^ 32) c.steps.pc (known_of c.in-Some-find_word.decoded) i c.in-Some.ensures goes.is (c.in-Some-find_word.ensures m c.requires.code) in
    let step = step_plain here new tid i known (sym (goes.made m tid (reserved_by c.args.held.now))) (plain_quiet i goes.plain) in
    let low = c.goes_on.ensures.yes c.steps-test.true in
    record {
      runs = λ first began most run.
          subst (λ row. HasRun g.W.Observer.stands (g.W.Observer.fits old) tid first began most row new c.steps.observer) (sym c.pass.ensures)
          (runs_plainly g.W.Observer.stands (g.W.Observer.fits old) (g.W.Observer.steps_fit old) tid first began most c.steps.row here c.steps.observer
          (c.steps.invariant.runs first began most run) low new step);
      grows =
          let passed : c.pass.new.self.told + c.pass.new.self.plain ≡ c.steps.row.told + (c.steps.row.plain + 1) = ap (λ (r : Row). r.told + r.plain) c.pass.ensures in
          omega (arith, c.steps.invariant.grows, passed);
      whole = ap (λ (r : Row). r.told + r.left) c.pass.ensures ∙ c.steps.invariant.whole;
      same = c.steps.invariant.same;
    }

pub run_decoded-requires : goal.run_decoded-requires
run_decoded-requires g c =
    let old = c.args.observer.now in
    let tid = c.args.tid in
    let m = memory_of c.args.memory.now in
    let stays = (c.execute_plain.ensures.stays c.if-execute_plain.false).kept in
    let at = ap (λ (r : Registers). r.pc) stays ∙ c.in-Some.ensures in
    let here = exec_state_of (with_pc c.execute_plain.new.pc c.execute_plain.new.cpu) c.args.memory.now c.args.held.now in
    let runs = stayed g.W.Observer.stands (g.W.Observer.fits old) tid c.args.row.now (with_pc c.args.pc.now c.args.cpu.now) old c.steps.row
    (with_pc c.steps.pc c.steps.cpu) (with_pc c.execute_plain.new.pc c.execute_plain.new.cpu) c.args.memory.now c.args.held.now c.steps.observer stays c.steps.invariant.runs in
    let r = c.requires.run in
    record {
      known = subst (λ pc. IfSome (known_of c.in-Some-find_word.decoded) (IsInstructionAt m pc)) (sym at) (c.in-Some-find_word.ensures m c.requires.code);
      run = (
        c.args.held.now,
        subst (λ fits. MayRun g.W.Observer.stands fits tid c.steps.row here c.steps.observer) (sym c.steps.invariant.same)
            (record { first = r.first; old = r.old; most = r.most; run = runs r.first r.old r.most r.run }),
      );
      within = c.goes_on.ensures.yes c.steps-test.true;
    }

pub steps-preserved : goal.steps-preserved
steps-preserved g c =
    let old = c.args.observer.now in
    let tid = c.args.tid in
    let stays = (c.execute_plain.ensures.stays c.if-execute_plain.false).kept in
    let begun = exec_state_of (with_pc c.args.pc.now c.args.cpu.now) c.args.memory.now c.args.held.now in
    let here = exec_state_of (with_pc c.execute_plain.new.pc c.execute_plain.new.cpu) c.args.memory.now c.args.held.now in
    let runs = stayed g.W.Observer.stands (g.W.Observer.fits old) tid c.args.row.now (with_pc c.args.pc.now c.args.cpu.now) old c.steps.row
    (with_pc c.steps.pc c.steps.cpu) (with_pc c.execute_plain.new.pc c.execute_plain.new.cpu) c.args.memory.now c.args.held.now c.steps.observer stays c.steps.invariant.runs in
    let led = runs_then g.W.Observer.stands (g.W.Observer.fits old) (g.W.Observer.fits c.steps.observer) c.steps.invariant.same tid c.args.row.now begun old
    c.steps.row here c.steps.observer runs c.run_decoded.new.row
    (exec_state_of (with_pc c.run_decoded.new.pc c.run_decoded.new.cpu) c.args.memory.now c.args.held.now) c.run_decoded.new.observer
    (answer_of c.run_decoded.result) (answer_of paused.Went) (ap answer_of c.in-Went.is) (c.run_decoded.ensures.runs c.args.held.now) in
    record {
      runs = led;
      grows = omega (arith, c.steps.invariant.grows, c.run_decoded.ensures.grows);
      whole = c.run_decoded.ensures.whole ∙ c.steps.invariant.whole;
      same = c.run_decoded.ensures.same ∙ c.steps.invariant.same;
    }

pub returns-in-Refused-clause-runs : goal.returns-in-Refused-clause-runs
returns-in-Refused-clause-runs g c =
    let old = c.args.observer.now in
    let tid = c.args.tid in
    let stays = (c.execute_plain.ensures.stays c.if-execute_plain.false).kept in
    let begun = exec_state_of (with_pc c.args.pc.now c.args.cpu.now) c.args.memory.now c.args.held.now in
    let here = exec_state_of (with_pc c.execute_plain.new.pc c.execute_plain.new.cpu) c.args.memory.now c.args.held.now in
    let runs = stayed g.W.Observer.stands (g.W.Observer.fits old) tid c.args.row.now (with_pc c.args.pc.now c.args.cpu.now) old c.steps.row
    (with_pc c.steps.pc c.steps.cpu) (with_pc c.execute_plain.new.pc c.execute_plain.new.cpu) c.args.memory.now c.args.held.now c.steps.observer stays c.steps.invariant.runs in
    let led = runs_then g.W.Observer.stands (g.W.Observer.fits old) (g.W.Observer.fits c.steps.observer) c.steps.invariant.same tid c.args.row.now begun old
    c.steps.row here c.steps.observer runs c.run_decoded.new.row
    (exec_state_of (with_pc c.run_decoded.new.pc c.run_decoded.new.cpu) c.args.memory.now c.args.held.now) c.run_decoded.new.observer
    (answer_of c.run_decoded.result) (answer_of paused.Refused) (ap answer_of c.in-Refused.is) (c.run_decoded.ensures.runs c.args.held.now) in
    led

pub returns-in-Store-clause-runs : goal.returns-in-Store-clause-runs
returns-in-Store-clause-runs g c =
    let old = c.args.observer.now in
    let tid = c.args.tid in
    let stays = (c.execute_plain.ensures.stays c.if-execute_plain.false).kept in
    let begun = exec_state_of (with_pc c.args.pc.now c.args.cpu.now) c.args.memory.now c.args.held.now in
    let here = exec_state_of (with_pc c.execute_plain.new.pc c.execute_plain.new.cpu) c.args.memory.now c.args.held.now in
    let runs = stayed g.W.Observer.stands (g.W.Observer.fits old) tid c.args.row.now (with_pc c.args.pc.now c.args.cpu.now) old c.steps.row
    (with_pc c.steps.pc c.steps.cpu) (with_pc c.execute_plain.new.pc c.execute_plain.new.cpu) c.args.memory.now c.args.held.now c.steps.observer stays c.steps.invariant.runs in
    let led = runs_then g.W.Observer.stands (g.W.Observer.fits old) (g.W.Observer.fits c.steps.observer) c.steps.invariant.same tid c.args.row.now begun old
    c.steps.row here c.steps.observer runs c.run_decoded.new.row
    (exec_state_of (with_pc c.run_decoded.new.pc c.run_decoded.new.cpu) c.args.memory.now c.args.held.now) c.run_decoded.new.observer
    (answer_of c.run_decoded.result) (answer_of (paused.Store c.in-Store.kind c.in-Store.value c.in-Store.base c.in-Store.offset)) (ap answer_of c.in-Store.is) (c.run_decoded.ensures.runs c.args.held.now) in
    led

pub returns-in-Elsewhere-clause-runs : goal.returns-in-Elsewhere-clause-runs
returns-in-Elsewhere-clause-runs g c =
    let old = c.args.observer.now in
    let tid = c.args.tid in
    let stays = (c.execute_plain.ensures.stays c.if-execute_plain.false).kept in
    let begun = exec_state_of (with_pc c.args.pc.now c.args.cpu.now) c.args.memory.now c.args.held.now in
    let here = exec_state_of (with_pc c.execute_plain.new.pc c.execute_plain.new.cpu) c.args.memory.now c.args.held.now in
    let runs = stayed g.W.Observer.stands (g.W.Observer.fits old) tid c.args.row.now (with_pc c.args.pc.now c.args.cpu.now) old c.steps.row
    (with_pc c.steps.pc c.steps.cpu) (with_pc c.execute_plain.new.pc c.execute_plain.new.cpu) c.args.memory.now c.args.held.now c.steps.observer stays c.steps.invariant.runs in
    let led = runs_then g.W.Observer.stands (g.W.Observer.fits old) (g.W.Observer.fits c.steps.observer) c.steps.invariant.same tid c.args.row.now begun old
    c.steps.row here c.steps.observer runs c.run_decoded.new.row
    (exec_state_of (with_pc c.run_decoded.new.pc c.run_decoded.new.cpu) c.args.memory.now c.args.held.now) c.run_decoded.new.observer
    (answer_of c.run_decoded.result) (answer_of paused.Elsewhere) (ap answer_of c.in-Elsewhere.is) (c.run_decoded.ensures.runs c.args.held.now) in
    led

pub returns-in-Stops-clause-runs : goal.returns-in-Stops-clause-runs
returns-in-Stops-clause-runs g c =
    let old = c.args.observer.now in
    let tid = c.args.tid in
    let stays = (c.execute_plain.ensures.stays c.if-execute_plain.false).kept in
    let begun = exec_state_of (with_pc c.args.pc.now c.args.cpu.now) c.args.memory.now c.args.held.now in
    let here = exec_state_of (with_pc c.execute_plain.new.pc c.execute_plain.new.cpu) c.args.memory.now c.args.held.now in
    let runs = stayed g.W.Observer.stands (g.W.Observer.fits old) tid c.args.row.now (with_pc c.args.pc.now c.args.cpu.now) old c.steps.row
    (with_pc c.steps.pc c.steps.cpu) (with_pc c.execute_plain.new.pc c.execute_plain.new.cpu) c.args.memory.now c.args.held.now c.steps.observer stays c.steps.invariant.runs in
    let led = runs_then g.W.Observer.stands (g.W.Observer.fits old) (g.W.Observer.fits c.steps.observer) c.steps.invariant.same tid c.args.row.now begun old
    c.steps.row here c.steps.observer runs c.run_decoded.new.row
    (exec_state_of (with_pc c.run_decoded.new.pc c.run_decoded.new.cpu) c.args.memory.now c.args.held.now) c.run_decoded.new.observer
    (answer_of c.run_decoded.result) (answer_of paused.Stops) (ap answer_of c.in-Stops.is) (c.run_decoded.ensures.runs c.args.held.now) in
    led

pub returns-in-OutOfMemory-clause-runs : goal.returns-in-OutOfMemory-clause-runs
returns-in-OutOfMemory-clause-runs g c =
    let old = c.args.observer.now in
    let tid = c.args.tid in
    let stays = (c.execute_plain.ensures.stays c.if-execute_plain.false).kept in
    let begun = exec_state_of (with_pc c.args.pc.now c.args.cpu.now) c.args.memory.now c.args.held.now in
    let here = exec_state_of (with_pc c.execute_plain.new.pc c.execute_plain.new.cpu) c.args.memory.now c.args.held.now in
    let runs = stayed g.W.Observer.stands (g.W.Observer.fits old) tid c.args.row.now (with_pc c.args.pc.now c.args.cpu.now) old c.steps.row
    (with_pc c.steps.pc c.steps.cpu) (with_pc c.execute_plain.new.pc c.execute_plain.new.cpu) c.args.memory.now c.args.held.now c.steps.observer stays c.steps.invariant.runs in
    let led = runs_then g.W.Observer.stands (g.W.Observer.fits old) (g.W.Observer.fits c.steps.observer) c.steps.invariant.same tid c.args.row.now begun old
    c.steps.row here c.steps.observer runs c.run_decoded.new.row
    (exec_state_of (with_pc c.run_decoded.new.pc c.run_decoded.new.cpu) c.args.memory.now c.args.held.now) c.run_decoded.new.observer
    (answer_of c.run_decoded.result) (answer_of paused.OutOfMemory) (ap answer_of c.in-OutOfMemory.is) (c.run_decoded.ensures.runs c.args.held.now) in
    led

pub steps-smaller : goal.steps-smaller
steps-smaller g c =
    omega (arith, c.run_decoded.ensures.further c.in-Went.is, c.run_decoded.ensures.whole, c.goes_on.ensures.yes c.steps-test.true)
