use Rattle.std.proofs.Common.{◌≡◌, Some, cond, ◌&&◌, ap, sym, ◌∙◌}
use Rattle.std.specs.Prelude.{nat_lt}
use Rattle.thread_sched.specs.TurnRule.{lesser}
use Rattle.thread_sched.proofs.Threads.{least_above_more}
use Rattle.thread_sched.proofs.turns.least_above.Goals.{then-can, else-can}
use Rattle.thread_sched.proofs.turns.least_above.Goals as goal

pub loop-i-preserved : goal.loop-i-preserved
loop-i-preserved c =
    let thread = c.at-tid.result in
    let above = nat_lt c.args.last thread.0 in
    let taken : c.if-can.with_taken ≡ (thread.1 && above) = elim c.if-can.branch [
      | then-can w ↦ w.with_taken-is ∙ ap (nat_lt c.args.last) w.number.ensures.same ∙ sym (ap (λ b. b && above) w.if-can.true)
      | else-can w ↦ w.with_taken-is ∙ w.if-can.false ∙ sym (ap (λ b. b && above) w.if-can.false)
    ] in
    let best = c.with_taken-best.ensures ∙ ap (λ b. cond b (Some (lesser thread.0 c.loop-i.best)) c.loop-i.best) taken in
    least_above_more c.args.last c.args.live.now c.loop-i.i _ c.loop-i.best _ c.at-tid.ensures c.loop-i.invariant best
