use Rattle.std.proofs.Common.{ℕ, List, ◌∙◌, ap}
use Rattle.trace_order.specs.Order.{OrderState, is_among}
use Rattle.trace_order.proofs.Live.{is_found}
use Rattle.trace_order.proofs.order.Order.lives.Goals as goal

pub returns : goal.returns
returns c =
    c.is_some.ensures ∙ is_found _ c.args.tid c.find.result c.find.ensures
    ∙ ap (λ (threads : List ℕ). is_among threads c.args.tid) c.deref.ensures.value
    ∙ ap (λ (s : OrderState). is_among s.live c.args.tid) c.self.view_is
