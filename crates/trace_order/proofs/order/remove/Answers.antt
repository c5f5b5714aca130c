use Rattle.std.proofs.Common.{◌≤◌, ◌∙◌, ap}
use Rattle.trace_order.specs.Order.{is_among}
use Rattle.trace_order.proofs.Live.{among-remove, among-same, all-remove, rising-remove}
use Rattle.trace_order.proofs.order.remove.Goals as goal

pub returns-in-Some-clause-rising : goal.returns-in-Some-clause-rising
returns-in-Some-clause-rising c =
    let there = rw c.deref.ensures.value at c.in-Some.ensures in
    rw c.remove.ensures.items (rising-remove c.args.threads.now.items _ there.0 c.requires)

pub returns-in-Some-clause-fewer : goal.returns-in-Some-clause-fewer
returns-in-Some-clause-fewer c most all =
    let there = rw c.deref.ensures.value at c.in-Some.ensures in
    rw c.remove.ensures.items (all-remove (λ t. t ≤ most) c.args.threads.now.items c.args.tid _ there.0 there.1 all)

pub returns-in-Some-clause-others : goal.returns-in-Some-clause-others
returns-in-Some-clause-others c t =
    let there = rw c.deref.ensures.value at c.in-Some.ensures in
    ap (λ threads. is_among threads t) c.remove.ensures.items ∙ among-remove c.args.threads.now.items c.args.tid _ c.requires there.0 there.1 t

pub returns-in_default-clause-others : goal.returns-in_default-clause-others
returns-in_default-clause-others c t =
    let none = rw c.deref.ensures.value at c.in_default.ensures in
    among-same c.args.threads.now.items c.args.tid none t
