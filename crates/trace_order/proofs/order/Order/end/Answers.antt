use Rattle.std.proofs.Common.{arith, ap, refl}
use Rattle.trace_model.specs.declared.event_kinds.Event.TheVariants.{End}
use Rattle.trace_order.specs.Order.{OrderState}
use Rattle.trace_order.specs.Progress.{ProgressState}
use Rattle.trace_order.proofs.Progressing.{began}
use Rattle.trace_order.proofs.order.Order.end.Goals as goal

pub invariant_of-self : goal.invariant_of-self
invariant_of-self c =
    let all = began (End c.args.tid) c.self.inside.progress c.pass.new.self c.remove.new.threads.items c.pass.ensures.value refl (c.remove.ensures.fewer _ c.self.invariant.started) in
    record {
      rising = c.remove.ensures.rising;
      started = all;
      light = omega (arith, ap (λ (s : ProgressState). s.weight) c.pass.ensures.value, ap (λ (s : OrderState). s.weight) c.self.view_is, c.requires);
    }
