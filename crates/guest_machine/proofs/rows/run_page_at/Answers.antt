use Rattle.std.proofs.Common.{◌≡◌, ◌%◌, ◌∙◌, ap, sym, subst}
use Rattle.guest_memory.specs.Guest.{memory_of}
use Rattle.rv_exec.specs.Effects.{exec_state_of}
use Rattle.rv_exec.specs.Registers.{Registers, with_pc}
use Rattle.guest_machine.specs.Private.Rows.{IsPaused, MayRun, RunsOn, answer_of}
use Rattle.guest_machine.proofs.Carried.{state_aligned}
use Rattle.guest_machine.proofs.RowOfSteps.{state_here}
use Rattle.guest_machine.proofs.rows.run_page_at.Goals as goal

pub new-pc-requires-clause-even : goal.new-pc-requires-clause-even
new-pc-requires-clause-even g c =
    let old = c.args.observer.now in
    let r = c.requires.run in
    let here = exec_state_of c.args.cpu.now c.args.memory.now c.args.held.now in
    ap (λ (x : Registers). x.pc % 4) c.cpu.view_is
    ∙ state_aligned here c.args.tid _ (state_here g.W.Observer.stands (g.W.Observer.fits old) (g.W.Observer.steps_fit old) c.args.tid r.first r.old r.most c.args.row.now here old r.run)

pub run_page-answer-requires-clause-run : goal.run_page-answer-requires-clause-run
run_page-answer-requires-clause-run g c =
    let old = c.args.observer.now in
    let here : with_pc c.new-pc.result c.args.cpu.now ≡ c.args.cpu.now = ap (λ pc. with_pc pc c.args.cpu.now) (c.new-pc.ensures ∙ ap (λ (x : Registers). x.pc) c.cpu.view_is) in
    subst (λ (x : Registers). MayRun g.W.Observer.stands (g.W.Observer.fits old) c.args.tid c.args.row.now (exec_state_of x c.args.memory.now c.args.held.now) old) (sym here) c.requires.run

pub returns-clause-runs : goal.returns-clause-runs
returns-clause-runs g c =
    let fits = g.W.Observer.fits c.args.observer.now in
    let from = c.run_page-answer in
    let here : with_pc c.new-pc.result c.args.cpu.now ≡ c.args.cpu.now = ap (λ pc. with_pc pc c.args.cpu.now) (c.new-pc.ensures ∙ ap (λ (r : Registers). r.pc) c.cpu.view_is) in
    let there = ap (with_pc c.address-cpu-inside.result) c.cpu-2.view_is ∙ ap (λ pc. with_pc pc from.new.cpu) c.address-cpu-inside.ensures in
    let Led : Registers → Registers → Type 0 = λ old new.
    RunsOn g.W.Observer.stands fits c.args.tid c.args.row.now (exec_state_of old c.args.memory.now c.args.held.now) c.args.observer.now
    from.new.row (exec_state_of new c.args.memory.now c.args.held.now) from.new.observer (answer_of from.result) in
    subst (Led c.args.cpu.now) (sym there) (subst (λ old. Led old (with_pc from.new.pc from.new.cpu)) here from.ensures.runs)

pub returns-clause-next : goal.returns-clause-next
returns-clause-next g c =
    let from = c.run_page-answer in
    subst (λ pc. IsPaused (memory_of c.args.memory.now) pc from.new.row from.result) (sym c.address-cpu-inside.ensures) from.ensures.next
