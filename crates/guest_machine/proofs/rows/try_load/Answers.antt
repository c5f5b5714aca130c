use Rattle.std.proofs.Common.{Ok, Err, ap, ap₂, ◌∙◌, w32}
use Rattle.std.proofs.lemmas.Int.{to_z-of_z}
use Rattle.rv_exec.specs.Effects.{exec_state_of}
use Rattle.rv_exec.specs.Operations.{add_offset}
use Rattle.rv_exec.specs.Registers.{with_pc}
use Rattle.rv_exec.specs.declared.outcome.Access.TheVariants as access
use Rattle.std.specs.Allocator.{alloc_error}
use Rattle.trace_model.specs.declared.observer.Observed.TheVariants.{Refused, Taken}
use Rattle.trace_model.specs.Observing.{result_of}
use Rattle.guest_machine.specs.declared.stepped.Advanced.TheVariants.{Accessed}
use Rattle.guest_machine.proofs.RowOfSteps.{may_hand, runs_to}
use Rattle.guest_machine.proofs.TriedSteps.{load_word_step}
use Rattle.guest_machine.proofs.rows.try_load.Goals as goal

pub hand_read-requires-clause-next : goal.hand_read-requires-clause-next
hand_read-requires-clause-next g c =
    let held = c.requires.run.0 in
    let r = c.requires.run.1 in
    let old = c.args.observer.now in
    let tid = c.args.tid in
    let at_is = c.add_offset-at.ensures ∙ ap₂ add_offset c.value.ensures.value (to_z-of_z w32 c.args.offset c.ranges.offset) in
    let here = exec_state_of (with_pc c.args.pc.now c.args.cpu.now) c.args.memory.now held in
    let new = exec_state_of (with_pc c.pass.new.self c.load_word.new.cpu) c.args.memory.now held in
    let step = load_word_step tid c.args.rd c.add_offset-at.result c.args.memory.now c.args.cpu.now c.load_word.new.cpu c.in-Some.first c.in-Some.ensures.went
    c.args.pc.now c.pass.new.self c.pass.ensures held c.args.kind c.args.base c.args.offset c.in-Lw.is c.requires.known at_is in
    may_hand g.W.Observer.stands (g.W.Observer.fits old) (g.W.Observer.steps_fit old) tid r.first r.old r.most c.args.row.now here old
    r.run c.requires.within new (Accessed (access.Read c.in-Some.first 1)) step

pub returns-in-Taken-clause-runs : goal.returns-in-Taken-clause-runs
returns-in-Taken-clause-runs g c = λ held first began most run.
    let old = c.args.observer.now in
    let tid = c.args.tid in
    let at_is = c.add_offset-at.ensures ∙ ap₂ add_offset c.value.ensures.value (to_z-of_z w32 c.args.offset c.ranges.offset) in
    let here = exec_state_of (with_pc c.args.pc.now c.args.cpu.now) c.args.memory.now held in
    let new = exec_state_of (with_pc c.pass.new.self c.load_word.new.cpu) c.args.memory.now held in
    let step = load_word_step tid c.args.rd c.add_offset-at.result c.args.memory.now c.args.cpu.now c.load_word.new.cpu c.in-Some.first c.in-Some.ensures.went
    c.args.pc.now c.pass.new.self c.pass.ensures held c.args.kind c.args.base c.args.offset c.in-Lw.is c.requires.known at_is in
    runs_to g.W.Observer.stands (g.W.Observer.fits old) (g.W.Observer.steps_fit old) tid first began most c.args.row.now here old
    run c.requires.within new (Accessed (access.Read c.in-Some.first 1)) step c.hand_read.new.row c.hand_read.ensures.row
    (result_of c.hand_read.result) (Ok Taken) (ap result_of c.in-Taken.is) c.hand_read.new.observer c.hand_read.ensures.observed

pub returns-in-Refused-clause-runs : goal.returns-in-Refused-clause-runs
returns-in-Refused-clause-runs g c = λ held first began most run.
    let old = c.args.observer.now in
    let tid = c.args.tid in
    let at_is = c.add_offset-at.ensures ∙ ap₂ add_offset c.value.ensures.value (to_z-of_z w32 c.args.offset c.ranges.offset) in
    let here = exec_state_of (with_pc c.args.pc.now c.args.cpu.now) c.args.memory.now held in
    let new = exec_state_of (with_pc c.pass.new.self c.load_word.new.cpu) c.args.memory.now held in
    let step = load_word_step tid c.args.rd c.add_offset-at.result c.args.memory.now c.args.cpu.now c.load_word.new.cpu c.in-Some.first c.in-Some.ensures.went
    c.args.pc.now c.pass.new.self c.pass.ensures held c.args.kind c.args.base c.args.offset c.in-Lw.is c.requires.known at_is in
    runs_to g.W.Observer.stands (g.W.Observer.fits old) (g.W.Observer.steps_fit old) tid first began most c.args.row.now here old
    run c.requires.within new (Accessed (access.Read c.in-Some.first 1)) step c.hand_read.new.row c.hand_read.ensures.row
    (result_of c.hand_read.result) (Ok Refused) (ap result_of c.in-Refused.is) c.hand_read.new.observer c.hand_read.ensures.observed

pub returns-in-OutOfMemory-clause-runs : goal.returns-in-OutOfMemory-clause-runs
returns-in-OutOfMemory-clause-runs g c = λ held first began most run.
    let old = c.args.observer.now in
    let tid = c.args.tid in
    let at_is = c.add_offset-at.ensures ∙ ap₂ add_offset c.value.ensures.value (to_z-of_z w32 c.args.offset c.ranges.offset) in
    let here = exec_state_of (with_pc c.args.pc.now c.args.cpu.now) c.args.memory.now held in
    let new = exec_state_of (with_pc c.pass.new.self c.load_word.new.cpu) c.args.memory.now held in
    let step = load_word_step tid c.args.rd c.add_offset-at.result c.args.memory.now c.args.cpu.now c.load_word.new.cpu c.in-Some.first c.in-Some.ensures.went
    c.args.pc.now c.pass.new.self c.pass.ensures held c.args.kind c.args.base c.args.offset c.in-Lw.is c.requires.known at_is in
    runs_to g.W.Observer.stands (g.W.Observer.fits old) (g.W.Observer.steps_fit old) tid first began most c.args.row.now here old
    run c.requires.within new (Accessed (access.Read c.in-Some.first 1)) step c.hand_read.new.row c.hand_read.ensures.row
    (result_of c.hand_read.result) (Err alloc_error) (ap result_of c.in-OutOfMemory.is) c.hand_read.new.observer c.hand_read.ensures.observed
