use Rattle.std.proofs.Common.{◌≡◌, ◌-◌, suc, subst, arith}
use Rattle.trace_model.specs.Depth.{is_within}
use Rattle.trace_model.specs.Observing.{MayStepBy}
use Rattle.shadow_core.specs.Profiling.{StandsFor}
use Rattle.stamp_table.specs.Renewal.{bounded_tick}
use Rattle.shadow_core.specs.State.{table_of_state}
use Rattle.stamp_table.specs.Ticks.{table_after_steps}
use Rattle.shadow_core.proofs.Stepped.{may_step_on, may_step_once, turned_steps}
use Rattle.shadow_core.proofs.profiler.Profiler.steps_first.Goals as goal

pub step_first_with-requires-clause-may : goal.step_first_with-requires-clause-may
step_first_with-requires-clause-may g c = may_step_once g.S.Stamp.MAX c.args.tid c.args.count _ c.requires.may c.requires.some

pub steps_on-requires-clause-may : goal.steps_on-requires-clause-may
steps_on-requires-clause-may g c =
    let one_more : c.args.count ≡ suc (c.args.count - 1) = omega (arith, c.requires.some) in
    may_step_on g.S.Stamp.MAX c.args.tid (c.args.count - 1) _ c.step_first_with.new.self
    (subst (λ n. MayStepBy (StandsFor g.S.Stamp.MAX) (is_within g.S.Stamp.MAX) c.args.self.now c.args.tid n) one_more c.requires.may) c.step_first_with.ensures.table

pub returns-then-count-gt1-clause-table : goal.returns-then-count-gt1-clause-table
returns-then-count-gt1-clause-table g c =
    let one_more : suc (c.args.count - 1) ≡ c.args.count = omega (arith, c.requires.some) in
    subst (λ n. table_of_state c.steps_on.new.self ≡ table_after_steps (bounded_tick g.S.Stamp.MAX) c.args.tid n (table_of_state c.args.self.now)) one_more
    (turned_steps g.S.Stamp.MAX c.args.tid (c.args.count - 1) c.args.self.now c.step_first_with.new.self c.steps_on.new.self c.step_first_with.ensures.table c.steps_on.ensures.table)
