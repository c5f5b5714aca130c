use Rattle.std.proofs.Common.{subst, sym}
use Rattle.std.specs.Prelude.{vec_len}
use Rattle.std.specs.Vec.{vec_capacity}
use Rattle.shadow_core.proofs.Applied.{all_written, needs_no_page, own_written, read_covered, returned_fits}
use Rattle.trace_model.specs.declared.event_kinds.Event.{Event}
use Rattle.shadow_core.specs.Costs.{CostsAtMost}
use Rattle.shadow_core.specs.State.{table_of_state}
use Rattle.shadow_core.proofs.profiler.Profiler.take.Goals as goal

pub returns-in-Read-clause-no_allocation : goal.returns-in-Read-clause-no_allocation
returns-in-Read-clause-no_allocation g c = λ needs.
    let r = c.in-Read in
    let no_page = needs_no_page c.args.e (table_of_state c.args.self.now) (vec_len c.args.done.now) (vec_capacity c.args.done.now) needs in
    c.read.ensures.no_allocation (read_covered c.args.self.now c.args.e r.tid r.first r.count r.is no_page)

pub returns-in-Write-clause-no_allocation : goal.returns-in-Write-clause-no_allocation
returns-in-Write-clause-no_allocation g c = λ needs.
    let w = c.in-Write in
    let no_page = needs_no_page c.args.e (table_of_state c.args.self.now) (vec_len c.args.done.now) (vec_capacity c.args.done.now) needs in
    c.write.ensures.no_allocation (own_written c.args.self.now c.args.e w.tid w.first w.count w.is no_page)
    (all_written c.args.self.now c.args.e w.tid w.first w.count w.is no_page)

pub returns-in-Ret-clause-no_allocation : goal.returns-in-Ret-clause-no_allocation
returns-in-Ret-clause-no_allocation g c = λ needs.
    let r = c.in-Ret in
    c.return_to.ensures.no_allocation
    (returned_fits g.S.Stamp.MAX r.tid r.target (vec_len c.args.done.now) (vec_capacity c.args.done.now) c.args.e c.args.self.now r.is c.requires needs)

pub returns-in-Read-clause-pages : goal.returns-in-Read-clause-pages
returns-in-Read-clause-pages g c = λ needs.
    let r = c.in-Read in
    c.read.ensures.pages (read_covered c.args.self.now c.args.e r.tid r.first r.count r.is needs)

pub returns-in-Write-clause-pages : goal.returns-in-Write-clause-pages
returns-in-Write-clause-pages g c = λ needs.
    let w = c.in-Write in
    c.write.ensures.pages (own_written c.args.self.now c.args.e w.tid w.first w.count w.is needs)
    (all_written c.args.self.now c.args.e w.tid w.first w.count w.is needs)

pub returns-in-Step-clause-cost : goal.returns-in-Step-clause-cost
returns-in-Step-clause-cost g c =
    subst (λ (e : Event). CostsAtMost g.S.Stamp.MAX e c.args.self.now c.args.steps.now c.step.new.steps) (sym c.in-Step.is) c.step.ensures.cost

pub returns-in-Read-clause-cost : goal.returns-in-Read-clause-cost
returns-in-Read-clause-cost g c =
    subst (λ (e : Event). CostsAtMost g.S.Stamp.MAX e c.args.self.now c.args.steps.now c.read.new.steps) (sym c.in-Read.is) c.read.ensures.cost

pub returns-in-Write-clause-cost : goal.returns-in-Write-clause-cost
returns-in-Write-clause-cost g c =
    subst (λ (e : Event). CostsAtMost g.S.Stamp.MAX e c.args.self.now c.args.steps.now c.write.new.steps) (sym c.in-Write.is) c.write.ensures.cost

pub returns-in-Fill-clause-cost : goal.returns-in-Fill-clause-cost
returns-in-Fill-clause-cost g c =
    subst (λ (e : Event). CostsAtMost g.S.Stamp.MAX e c.args.self.now c.args.steps.now c.fill.new.steps) (sym c.in-Fill.is) c.fill.ensures.cost

pub returns-in-Call-clause-cost : goal.returns-in-Call-clause-cost
returns-in-Call-clause-cost g c =
    subst (λ (e : Event). CostsAtMost g.S.Stamp.MAX e c.args.self.now c.args.steps.now c.call.new.steps) (sym c.in-Call.is) c.call.ensures.cost

pub returns-in-Ret-clause-cost : goal.returns-in-Ret-clause-cost
returns-in-Ret-clause-cost g c =
    subst (λ (e : Event). CostsAtMost g.S.Stamp.MAX e c.args.self.now c.args.steps.now c.return_to.new.steps) (sym c.in-Ret.is) c.return_to.ensures.cost

pub returns-in-Start-clause-cost : goal.returns-in-Start-clause-cost
returns-in-Start-clause-cost g c =
    subst (λ (e : Event). CostsAtMost g.S.Stamp.MAX e c.args.self.now c.args.steps.now c.start.new.steps) (sym c.in-Start.is) c.start.ensures.cost

pub returns-in-End-clause-cost : goal.returns-in-End-clause-cost
returns-in-End-clause-cost g c =
    subst (λ (e : Event). CostsAtMost g.S.Stamp.MAX e c.args.self.now c.args.steps.now c.end.new.steps) (sym c.in-End.is) c.end.ensures.cost
