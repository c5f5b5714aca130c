use Rattle.std.proofs.Common.{◌∙◌, ◌-◌, ap, map, subst, sym}
use Rattle.std.proofs.lemmas.List.{take-map}
use Rattle.call_tracker.specs.Missed.{AreMissed}
use Rattle.call_tracker.proofs.open_calls.OpenCalls.cut.Goals as goal

pub invariant_of-self : goal.invariant_of-self
invariant_of-self g c =
    let back = g.C.Returns.back_of in
    let calls = c.self.inside.calls.items in
    subst (λ bs. AreMissed bs c.keep.new.self)
    (take-map back (c.len.result - c.args.ended) calls ∙ sym (ap (map back) c.truncate.ensures.items))
    (c.keep.ensures (map back calls) c.self.invariant)
