use Rattle.std.proofs.Common.{arith, ap}
use Rattle.trace_order.specs.Order.{OrderState}
use Rattle.trace_order.specs.Progress.{ProgressState}
use Rattle.trace_order.proofs.Progressing.{began, weighs}
use Rattle.trace_order.proofs.order.Order.pass.Goals as goal

pub invariant_of-self : goal.invariant_of-self
invariant_of-self c = record {
  rising = c.self.invariant.rising;
  started = began c.args.e.now c.self.inside.progress c.pass.new.self c.self.inside.live.items c.pass.ensures.value c.requires.other c.self.invariant.started;
  light = omega (arith, ap (λ (s : ProgressState). s.weight) c.pass.ensures.value, weighs c.args.e.now c.self.inside.progress, ap (λ (s : OrderState). s.weight) c.self.view_is, c.requires.light);
}
