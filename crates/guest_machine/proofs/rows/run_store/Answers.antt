use Rattle.std.proofs.Common.{◌≡◌, ◌+◌, ◌<◌, Ok, ap, refl, subst, sym, ◌∙◌}
use Rattle.rv_exec.specs.Effects.{exec_state_of}
use Rattle.trace_model.specs.declared.observer.Observed.TheVariants.{Taken}
use Rattle.guest_machine.specs.declared.rows.Tried.{Tried}
use Rattle.guest_machine.specs.Private.Making.{Makes, MayMake}
use Rattle.guest_machine.specs.Private.Rows.{Row, further_of, tried_answer, tried_row}
use Rattle.guest_machine.proofs.MadeSteps.{counted, may_make}
use Rattle.guest_machine.proofs.NextSteps.{runs_as, runs_then}
use Rattle.guest_machine.proofs.rows.run_store.Goals as goal

pub returns-in-Taken-clause-runs : goal.returns-in-Taken-clause-runs
returns-in-Taken-clause-runs g c =
    let old = c.args.observer.now in
    runs_as g.W.Observer.stands (g.W.Observer.fits old) c.args.tid c.args.row.now (exec_state_of c.args.cpu.now c.args.memory.now c.args.held.now) old
    c.try_store.new.row (exec_state_of c.try_store.new.cpu c.try_store.new.memory c.args.held.now) c.try_store.new.observer
    (tried_answer c.try_store.result) (tried_answer Tried.Taken) (ap tried_answer c.in-Taken.is) c.try_store.ensures.runs

pub returns-in-Refused-clause-runs : goal.returns-in-Refused-clause-runs
returns-in-Refused-clause-runs g c =
    let old = c.args.observer.now in
    runs_as g.W.Observer.stands (g.W.Observer.fits old) c.args.tid c.args.row.now (exec_state_of c.args.cpu.now c.args.memory.now c.args.held.now) old
    c.try_store.new.row (exec_state_of c.try_store.new.cpu c.try_store.new.memory c.args.held.now) c.try_store.new.observer
    (tried_answer c.try_store.result) (tried_answer Tried.Refused) (ap tried_answer c.in-Refused.is) c.try_store.ensures.runs

pub returns-in-OutOfMemory-clause-runs : goal.returns-in-OutOfMemory-clause-runs
returns-in-OutOfMemory-clause-runs g c =
    let old = c.args.observer.now in
    runs_as g.W.Observer.stands (g.W.Observer.fits old) c.args.tid c.args.row.now (exec_state_of c.args.cpu.now c.args.memory.now c.args.held.now) old
    c.try_store.new.row (exec_state_of c.try_store.new.cpu c.try_store.new.memory c.args.held.now) c.try_store.new.observer
    (tried_answer c.try_store.result) (tried_answer Tried.OutOfMemory) (ap tried_answer c.in-OutOfMemory.is) c.try_store.ensures.runs

pub make_store-made-requires-clause-may : goal.make_store-made-requires-clause-may
make_store-made-requires-clause-may g c =
    let r = c.requires.run in
    let old = c.args.observer.now in
    let tid = c.args.tid in
    let fits = g.W.Observer.fits old in
    let here = exec_state_of c.args.cpu.now c.args.memory.now c.args.held.now in
    let there = exec_state_of c.try_store.new.cpu c.try_store.new.memory c.args.held.now in
    let still : c.try_store.new.row ≡ c.args.row.now = c.try_store.ensures.row ∙ ap (tried_row c.args.row.now) c.in-Declined.is in
    let low : c.try_store.new.row.plain < c.try_store.new.row.left = subst (λ (r : Row). r.plain < r.left) (sym still) c.requires.within in
    let on = runs_as g.W.Observer.stands fits tid c.args.row.now here old c.try_store.new.row there c.try_store.new.observer
    (tried_answer c.try_store.result) (Ok Taken) (ap tried_answer c.in-Declined.is) c.try_store.ensures.runs in
    subst (λ n. MayMake g.W.Observer.stands (g.W.Observer.fits c.try_store.new.observer) tid n there c.try_store.new.observer) (sym c.due-steps.ensures)
    (subst (λ f. MayMake g.W.Observer.stands f tid (c.try_store.new.row.plain + 1) there c.try_store.new.observer) (sym c.try_store.ensures.same)
    (may_make g.W.Observer.stands fits tid c.try_store.new.row low there c.try_store.new.observer r.first r.old r.most
    (on r.first r.old r.most r.run)))

pub returns-clause-runs : goal.returns-clause-runs
returns-clause-runs g c =
    let old = c.args.observer.now in
    let tid = c.args.tid in
    let fits = g.W.Observer.fits old in
    let here = exec_state_of c.args.cpu.now c.args.memory.now c.args.held.now in
    let there = exec_state_of c.try_store.new.cpu c.try_store.new.memory c.args.held.now in
    let still : c.try_store.new.row ≡ c.args.row.now = c.try_store.ensures.row ∙ ap (tried_row c.args.row.now) c.in-Declined.is in
    let low : c.try_store.new.row.plain < c.try_store.new.row.left = subst (λ (r : Row). r.plain < r.left) (sym still) c.requires.within in
    let on = runs_as g.W.Observer.stands fits tid c.args.row.now here old c.try_store.new.row there c.try_store.new.observer
    (tried_answer c.try_store.result) (Ok Taken) (ap tried_answer c.in-Declined.is) c.try_store.ensures.runs in
    let new = exec_state_of c.make_store-made.new.cpu c.make_store-made.new.memory c.make_store-made.new.held in
    let makes = subst (λ n. Makes g.W.Observer.stands (g.W.Observer.fits c.try_store.new.observer) tid n there c.try_store.new.observer
    new c.make_store-made.new.observer c.make_store-made.result) c.due-steps.ensures c.make_store-made.ensures.made in
    runs_then g.W.Observer.stands fits (g.W.Observer.fits c.try_store.new.observer) c.try_store.ensures.same tid c.args.row.now here old
    c.try_store.new.row there c.try_store.new.observer on c.count_made.new.row new c.make_store-made.new.observer
    (further_of c.count_made.result) (further_of c.count_made.result) refl
    (counted g.W.Observer.stands (g.W.Observer.fits c.try_store.new.observer) tid c.try_store.new.row low there c.try_store.new.observer
    new c.make_store-made.new.observer c.make_store-made.result makes c.count_made.new.row c.count_made.ensures.row c.count_made.result c.count_made.ensures.further)
