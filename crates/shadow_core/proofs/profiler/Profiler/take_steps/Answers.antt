use Rattle.shadow_core.proofs.Stepped.{by_steps}
use Rattle.shadow_core.proofs.profiler.Profiler.take_steps.Goals as goal

pub returns-then-is_running-clause-stands : goal.returns-then-is_running-clause-stands
returns-then-is_running-clause-stands g c = by_steps g.S.Stamp.MAX c.args.tid c.args.count c.args.self.now c.steps_on.new.self c.requires.may c.steps_on.ensures.table

pub returns-else-is_running-clause-stands : goal.returns-else-is_running-clause-stands
returns-else-is_running-clause-stands g c = by_steps g.S.Stamp.MAX c.args.tid c.args.count c.args.self.now c.steps_first.new.self c.requires.may c.steps_first.ensures.table
