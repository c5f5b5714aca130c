use Rattle.std.proofs.Common.{sym, subst}
use Rattle.trace_model.specs.Observing.{with_steps}
use Rattle.trace_order.specs.Progress.{IsProgressOf, ProgressState, passed_steps}
use Rattle.trace_order.proofs.Progressing.{passes_steps}
use Rattle.trace_order.proofs.progress.Progress.pass_steps.Goals as goal

pub returns-clause-stands : goal.returns-clause-stands
returns-clause-stands c = λ past of formed.
    subst (λ (p : ProgressState). IsProgressOf (passed_steps c.args.tid c.args.count p) (with_steps c.args.tid c.args.count past)) (sym c.self.view_is)
    (passes_steps c.args.tid c.args.count c.args.self.now past c.requires.some of formed)
