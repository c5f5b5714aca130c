use Rattle.std.proofs.Common.{Ok, Err, ap, ap₂, ◌∙◌, w32}
use Rattle.std.proofs.lemmas.Int.{to_z-of_z}
use Rattle.rv_exec.specs.Effects.{exec_state_of}
use Rattle.rv_exec.specs.Operations.{add_offset}
use Rattle.rv_exec.specs.declared.outcome.Access.TheVariants as access
use Rattle.std.specs.Allocator.{alloc_error}
use Rattle.trace_model.specs.declared.observer.Observed.TheVariants.{Refused, Taken}
use Rattle.trace_model.specs.Observing.{result_of}
use Rattle.guest_machine.specs.declared.stepped.Advanced.TheVariants.{Accessed}
use Rattle.guest_machine.proofs.RowOfSteps.{may_hand, runs_to}
use Rattle.guest_machine.proofs.TriedSteps.{store_word_step}
use Rattle.guest_machine.proofs.rows.try_store.Goals as goal

pub hand_write-requires-clause-next : goal.hand_write-requires-clause-next
hand_write-requires-clause-next g c =
    let r = c.requires.run in
    let old = c.args.observer.now in
    let tid = c.args.tid in
    let at_is = c.add_offset-at.ensures ∙ ap₂ add_offset c.value.ensures.value (to_z-of_z w32 c.args.offset c.ranges.offset) in
    let here = exec_state_of c.args.cpu.now c.args.memory.now c.args.held.now in
    let new = exec_state_of c.advance.new.self c.store_word.new.memory c.args.held.now in
    let step = store_word_step tid c.add_offset-at.result c.value-2.result c.args.memory.now c.store_word.new.memory c.args.held.now c.in-Some.first c.in-Some.ensures.went
    c.args.cpu.now c.advance.new.self c.advance.ensures.registers c.args.kind c.args.value c.args.base c.args.offset c.in-Sw.is c.requires.known at_is c.value-2.ensures.value in
    may_hand g.W.Observer.stands (g.W.Observer.fits old) (g.W.Observer.steps_fit old) tid r.first r.old r.most c.args.row.now here old
    r.run c.requires.within new (Accessed (access.Write c.in-Some.first 1)) step

pub returns-in-Taken-clause-runs : goal.returns-in-Taken-clause-runs
returns-in-Taken-clause-runs g c = λ first began most run.
    let old = c.args.observer.now in
    let tid = c.args.tid in
    let at_is = c.add_offset-at.ensures ∙ ap₂ add_offset c.value.ensures.value (to_z-of_z w32 c.args.offset c.ranges.offset) in
    let here = exec_state_of c.args.cpu.now c.args.memory.now c.args.held.now in
    let new = exec_state_of c.advance.new.self c.store_word.new.memory c.args.held.now in
    let step = store_word_step tid c.add_offset-at.result c.value-2.result c.args.memory.now c.store_word.new.memory c.args.held.now c.in-Some.first c.in-Some.ensures.went
    c.args.cpu.now c.advance.new.self c.advance.ensures.registers c.args.kind c.args.value c.args.base c.args.offset c.in-Sw.is c.requires.known at_is c.value-2.ensures.value in
    runs_to g.W.Observer.stands (g.W.Observer.fits old) (g.W.Observer.steps_fit old) tid first began most c.args.row.now here old
    run c.requires.within new (Accessed (access.Write c.in-Some.first 1)) step c.hand_write.new.row c.hand_write.ensures.row
    (result_of c.hand_write.result) (Ok Taken) (ap result_of c.in-Taken.is) c.hand_write.new.observer c.hand_write.ensures.observed

pub returns-in-Refused-clause-runs : goal.returns-in-Refused-clause-runs
returns-in-Refused-clause-runs g c = λ first began most run.
    let old = c.args.observer.now in
    let tid = c.args.tid in
    let at_is = c.add_offset-at.ensures ∙ ap₂ add_offset c.value.ensures.value (to_z-of_z w32 c.args.offset c.ranges.offset) in
    let here = exec_state_of c.args.cpu.now c.args.memory.now c.args.held.now in
    let new = exec_state_of c.advance.new.self c.store_word.new.memory c.args.held.now in
    let step = store_word_step tid c.add_offset-at.result c.value-2.result c.args.memory.now c.store_word.new.memory c.args.held.now c.in-Some.first c.in-Some.ensures.went
    c.args.cpu.now c.advance.new.self c.advance.ensures.registers c.args.kind c.args.value c.args.base c.args.offset c.in-Sw.is c.requires.known at_is c.value-2.ensures.value in
    runs_to g.W.Observer.stands (g.W.Observer.fits old) (g.W.Observer.steps_fit old) tid first began most c.args.row.now here old
    run c.requires.within new (Accessed (access.Write c.in-Some.first 1)) step c.hand_write.new.row c.hand_write.ensures.row
    (result_of c.hand_write.result) (Ok Refused) (ap result_of c.in-Refused.is) c.hand_write.new.observer c.hand_write.ensures.observed

pub returns-in-OutOfMemory-clause-runs : goal.returns-in-OutOfMemory-clause-runs
returns-in-OutOfMemory-clause-runs g c = λ first began most run.
    let old = c.args.observer.now in
    let tid = c.args.tid in
    let at_is = c.add_offset-at.ensures ∙ ap₂ add_offset c.value.ensures.value (to_z-of_z w32 c.args.offset c.ranges.offset) in
    let here = exec_state_of c.args.cpu.now c.args.memory.now c.args.held.now in
    let new = exec_state_of c.advance.new.self c.store_word.new.memory c.args.held.now in
    let step = store_word_step tid c.add_offset-at.result c.value-2.result c.args.memory.now c.store_word.new.memory c.args.held.now c.in-Some.first c.in-Some.ensures.went
    c.args.cpu.now c.advance.new.self c.advance.ensures.registers c.args.kind c.args.value c.args.base c.args.offset c.in-Sw.is c.requires.known at_is c.value-2.ensures.value in
    runs_to g.W.Observer.stands (g.W.Observer.fits old) (g.W.Observer.steps_fit old) tid first began most c.args.row.now here old
    run c.requires.within new (Accessed (access.Write c.in-Some.first 1)) step c.hand_write.new.row c.hand_write.ensures.row
    (result_of c.hand_write.result) (Err alloc_error) (ap result_of c.in-OutOfMemory.is) c.hand_write.new.observer c.hand_write.ensures.observed
