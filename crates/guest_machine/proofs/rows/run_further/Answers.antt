use Rattle.std.proofs.Common.{rules, ◌≡◌, Ok, OnErr, refl, sym, ap, subst, arith}
use Rattle.std.proofs.lemmas.Int.{to_z-of_z}
use Rattle.guest_memory.specs.Guest.{memory_of}
use Rattle.rv_exec.specs.Effects.{exec_state_of}
use Rattle.trace_model.specs.declared.observer.Observed.TheVariants.{Taken}
use Rattle.guest_machine.specs.declared.rows.Paused.{Paused}
use Rattle.guest_machine.specs.Private.Rows.{Counts, HasMade, IsPaused, MayCount, MayRun, answer_of, further_of}
use Rattle.guest_machine.proofs.NextSteps.{runs_as, runs_then}
use Rattle.guest_machine.proofs.RowOfSteps.{is_next, made_so_far, state_here}
use Rattle.guest_machine.proofs.rows.run_further.Goals as goal

pub returns-in-Went-clause-runs : goal.returns-in-Went-clause-runs
returns-in-Went-clause-runs g c =
    let old = c.args.observer.now in
    let tid = c.args.tid in
    let begun = exec_state_of c.args.cpu.now c.args.memory.now c.args.held.now in
    let here = exec_state_of c.run_page_at.new.cpu c.args.memory.now c.args.held.now in
    let goes = runs_as g.W.Observer.stands (g.W.Observer.fits old) tid c.args.row.now begun old c.run_page_at.new.row here c.run_page_at.new.observer
    (answer_of c.run_page_at.result) (answer_of Paused.Went) (ap answer_of c.in-Went.is) c.run_page_at.ensures.runs in
    goes

pub returns-in-Refused-clause-runs : goal.returns-in-Refused-clause-runs
returns-in-Refused-clause-runs g c =
    let old = c.args.observer.now in
    let tid = c.args.tid in
    let begun = exec_state_of c.args.cpu.now c.args.memory.now c.args.held.now in
    let here = exec_state_of c.run_page_at.new.cpu c.args.memory.now c.args.held.now in
    let goes = runs_as g.W.Observer.stands (g.W.Observer.fits old) tid c.args.row.now begun old c.run_page_at.new.row here c.run_page_at.new.observer
    (answer_of c.run_page_at.result) (answer_of Paused.Refused) (ap answer_of c.in-Refused.is) c.run_page_at.ensures.runs in
    goes

pub returns-in-Stops-clause-runs : goal.returns-in-Stops-clause-runs
returns-in-Stops-clause-runs g c =
    let old = c.args.observer.now in
    let tid = c.args.tid in
    let begun = exec_state_of c.args.cpu.now c.args.memory.now c.args.held.now in
    let here = exec_state_of c.run_page_at.new.cpu c.args.memory.now c.args.held.now in
    let goes = runs_as g.W.Observer.stands (g.W.Observer.fits old) tid c.args.row.now begun old c.run_page_at.new.row here c.run_page_at.new.observer
    (answer_of c.run_page_at.result) (answer_of Paused.Stops) (ap answer_of c.in-Stops.is) c.run_page_at.ensures.runs in
    goes

pub returns-in-OutOfMemory-clause-runs : goal.returns-in-OutOfMemory-clause-runs
returns-in-OutOfMemory-clause-runs g c =
    let old = c.args.observer.now in
    let tid = c.args.tid in
    let begun = exec_state_of c.args.cpu.now c.args.memory.now c.args.held.now in
    let here = exec_state_of c.run_page_at.new.cpu c.args.memory.now c.args.held.now in
    let goes = runs_as g.W.Observer.stands (g.W.Observer.fits old) tid c.args.row.now begun old c.run_page_at.new.row here c.run_page_at.new.observer
    (answer_of c.run_page_at.result) (answer_of Paused.OutOfMemory) (ap answer_of c.in-OutOfMemory.is) c.run_page_at.ensures.runs in
    goes

pub returns-in-Went-clause-grows : goal.returns-in-Went-clause-grows
returns-in-Went-clause-grows g c = λ went.
    let old = c.args.observer.now in
    let tid = c.args.tid in
    let begun = exec_state_of c.args.cpu.now c.args.memory.now c.args.held.now in
    let here = exec_state_of c.run_page_at.new.cpu c.args.memory.now c.args.held.now in
    let goes = runs_as g.W.Observer.stands (g.W.Observer.fits old) tid c.args.row.now begun old c.run_page_at.new.row here c.run_page_at.new.observer
    (answer_of c.run_page_at.result) (Ok Taken) (ap answer_of c.in-Went.is) c.run_page_at.ensures.runs in
    let r = c.requires.run in
    let run = goes r.first r.old r.most r.run in
    omega (arith, run.room, r.run.room, c.requires.within, c.run_page_at.ensures.went c.in-Went.is)

pub run_store-requires-clause-known : goal.run_store-requires-clause-known
run_store-requires-clause-known g c =
    let next = subst (IsPaused (memory_of c.args.memory.now) c.run_page_at.new.cpu.pc c.run_page_at.new.row) c.in-Store.is c.run_page_at.ensures.next in
    search (rules, to_z-of_z, next.1)

pub run_store-requires-clause-run : goal.run_store-requires-clause-run
run_store-requires-clause-run g c =
    let old = c.args.observer.now in
    let tid = c.args.tid in
    let begun = exec_state_of c.args.cpu.now c.args.memory.now c.args.held.now in
    let here = exec_state_of c.run_page_at.new.cpu c.args.memory.now c.args.held.now in
    let goes = runs_as g.W.Observer.stands (g.W.Observer.fits old) tid c.args.row.now begun old c.run_page_at.new.row here c.run_page_at.new.observer
    (answer_of c.run_page_at.result) (answer_of (Paused.Store c.in-Store.kind c.in-Store.value c.in-Store.base c.in-Store.offset)) (ap answer_of c.in-Store.is) c.run_page_at.ensures.runs in
    let r = c.requires.run in
    subst (λ fits. MayRun g.W.Observer.stands fits tid c.run_page_at.new.row here c.run_page_at.new.observer) (sym c.run_page_at.ensures.same)
    (record { first = r.first; old = r.old; most = r.most; run = goes r.first r.old r.most r.run })

pub run_store-requires-clause-within : goal.run_store-requires-clause-within
run_store-requires-clause-within g c =
    (subst (IsPaused (memory_of c.args.memory.now) c.run_page_at.new.cpu.pc c.run_page_at.new.row) c.in-Store.is c.run_page_at.ensures.next).0

pub returns-in-Store-clause-runs : goal.returns-in-Store-clause-runs
returns-in-Store-clause-runs g c =
    let old = c.args.observer.now in
    let tid = c.args.tid in
    let begun = exec_state_of c.args.cpu.now c.args.memory.now c.args.held.now in
    let here = exec_state_of c.run_page_at.new.cpu c.args.memory.now c.args.held.now in
    let goes = runs_as g.W.Observer.stands (g.W.Observer.fits old) tid c.args.row.now begun old c.run_page_at.new.row here c.run_page_at.new.observer
    (answer_of c.run_page_at.result) (answer_of (Paused.Store c.in-Store.kind c.in-Store.value c.in-Store.base c.in-Store.offset)) (ap answer_of c.in-Store.is) c.run_page_at.ensures.runs in
    runs_then g.W.Observer.stands (g.W.Observer.fits old) (g.W.Observer.fits c.run_page_at.new.observer) c.run_page_at.ensures.same tid c.args.row.now begun old
    c.run_page_at.new.row here c.run_page_at.new.observer goes c.run_store.new.row
    (exec_state_of c.run_store.new.cpu c.run_store.new.memory c.run_store.new.held) c.run_store.new.observer
    (further_of c.run_store.result) (further_of c.run_store.result) refl c.run_store.ensures.runs

pub returns-then-made-before-clause-runs : goal.returns-then-made-before-clause-runs
returns-then-made-before-clause-runs g c =
    let old = c.args.observer.now in
    let tid = c.args.tid in
    let begun = exec_state_of c.args.cpu.now c.args.memory.now c.args.held.now in
    let here = exec_state_of c.run_page_at.new.cpu c.args.memory.now c.args.held.now in
    let goes = runs_as g.W.Observer.stands (g.W.Observer.fits old) tid c.args.row.now begun old c.run_page_at.new.row here c.run_page_at.new.observer
    (answer_of c.run_page_at.result) (Ok Taken) (ap answer_of c.in-Elsewhere.is) c.run_page_at.ensures.runs in
    goes

pub carry_out_next-requires : goal.carry_out_next-requires
carry_out_next-requires g c =
    let old = c.args.observer.now in
    let tid = c.args.tid in
    let begun = exec_state_of c.args.cpu.now c.args.memory.now c.args.held.now in
    let here = exec_state_of c.run_page_at.new.cpu c.args.memory.now c.args.held.now in
    let goes = runs_as g.W.Observer.stands (g.W.Observer.fits old) tid c.args.row.now begun old c.run_page_at.new.row here c.run_page_at.new.observer
    (answer_of c.run_page_at.result) (Ok Taken) (ap answer_of c.in-Elsewhere.is) c.run_page_at.ensures.runs in
    let r = c.requires.run in
    let run = goes r.first r.old r.most r.run in
    (_, state_here g.W.Observer.stands (g.W.Observer.fits old) (g.W.Observer.steps_fit old) tid r.first r.old r.most c.run_page_at.new.row here c.run_page_at.new.observer run)

pub count_next-requires-clause-step : goal.count_next-requires-clause-step
count_next-requires-clause-step g c =
    let old = c.args.observer.now in
    let tid = c.args.tid in
    let begun = exec_state_of c.args.cpu.now c.args.memory.now c.args.held.now in
    let here = exec_state_of c.run_page_at.new.cpu c.args.memory.now c.args.held.now in
    let goes = runs_as g.W.Observer.stands (g.W.Observer.fits old) tid c.args.row.now begun old c.run_page_at.new.row here c.run_page_at.new.observer
    (answer_of c.run_page_at.result) (Ok Taken) (ap answer_of c.in-Elsewhere.is) c.run_page_at.ensures.runs in
    let r = c.requires.run in
    let there = exec_state_of c.carry_out_next.new.cpu c.carry_out_next.new.memory c.carry_out_next.new.held in
    subst (λ fits. MayCount g.W.Observer.stands fits tid c.run_page_at.new.row c.in-Ok.next c.run_page_at.new.observer) (sym c.run_page_at.ensures.same)
    (record {
      here = here;
      there = there;
      run = record { first = r.first; old = r.old; most = r.most; run = goes r.first r.old r.most r.run };
      step = is_next here there tid c.in-Ok.next c.in-Ok.ensures.step c.in-Ok.ensures.kept c.in-Ok.ensures.instruction;
    })

pub returns-in-Ok-clause-runs : goal.returns-in-Ok-clause-runs
returns-in-Ok-clause-runs g c = λ first began most run.
    let old = c.args.observer.now in
    let tid = c.args.tid in
    let begun = exec_state_of c.args.cpu.now c.args.memory.now c.args.held.now in
    let here = exec_state_of c.run_page_at.new.cpu c.args.memory.now c.args.held.now in
    let goes = runs_as g.W.Observer.stands (g.W.Observer.fits old) tid c.args.row.now begun old c.run_page_at.new.row here c.run_page_at.new.observer
    (answer_of c.run_page_at.result) (Ok Taken) (ap answer_of c.in-Elsewhere.is) c.run_page_at.ensures.runs in
    let there = exec_state_of c.carry_out_next.new.cpu c.carry_out_next.new.memory c.carry_out_next.new.held in
    let counts = subst (λ fits. Counts g.W.Observer.stands fits tid c.run_page_at.new.row c.in-Ok.next c.run_page_at.new.observer c.count_next.new.row c.count_next.new.observer (further_of c.count_next.result)) c.run_page_at.ensures.same c.count_next.ensures.counts in
    counts here there (is_next here there tid c.in-Ok.next c.in-Ok.ensures.step c.in-Ok.ensures.kept c.in-Ok.ensures.instruction) first began most (goes first began most run)

pub returns-in-Err-clause-runs : goal.returns-in-Err-clause-runs
returns-in-Err-clause-runs g c = λ first began most run.
    let old = c.args.observer.now in
    let tid = c.args.tid in
    let begun = exec_state_of c.args.cpu.now c.args.memory.now c.args.held.now in
    let here = exec_state_of c.run_page_at.new.cpu c.args.memory.now c.args.held.now in
    let goes = runs_as g.W.Observer.stands (g.W.Observer.fits old) tid c.args.row.now begun old c.run_page_at.new.row here c.run_page_at.new.observer
    (answer_of c.run_page_at.result) (Ok Taken) (ap answer_of c.in-Elsewhere.is) c.run_page_at.ensures.runs in
    let there = exec_state_of c.carry_out_next.new.cpu c.carry_out_next.new.memory c.carry_out_next.new.held in
    let kept : there ≡ here = subst (λ r. OnErr r (there ≡ here)) c.in-Err.is c.carry_out_next.ensures.refused in
    subst (HasMade tid first most c.run_page_at.new.row) (sym kept)
    (made_so_far g.W.Observer.stands (g.W.Observer.fits old) (g.W.Observer.steps_fit old) tid first began most c.run_page_at.new.row here c.run_page_at.new.observer (goes first began most run))
