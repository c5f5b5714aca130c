use Rattle.std.proofs.Common.{◌≡◌, ◌&&◌, ◌+◌, ap, ap₂, eqb, false, sym, true, ◌∙◌}
use Rattle.std.proofs.Math.Bool.{and-false}
use Rattle.thread_sched.proofs.Threads.{is_able_more, is_able_of_first}
use Rattle.thread_sched.proofs.turns.is_able.Goals.{else-can-via-else-can, else-can-via-then-can+else-eq}
use Rattle.thread_sched.proofs.turns.is_able.Goals as goal

pub returns-then-eq : goal.returns-then-eq
returns-then-eq c =
    let found = ap₂ (λ x y. x && y) c.if-can.true (sym c.eq.ensures ∙ c.if-eq.true) in
    is_able_of_first c.args.tid c.args.live.now (c.loop-i.i + 1)
    (is_able_more c.args.tid c.args.live.now c.loop-i.i _ false true c.at-other.ensures (sym c.loop-i.invariant) (sym found))

pub loop-i-preserved : goal.loop-i-preserved
loop-i-preserved c =
    let thread = c.at-other.result in
    let same = eqb thread.0 c.args.tid in
    let no : (thread.1 && same) ≡ false = elim c.else-can.branch [
      | else-can-via-then-can+else-eq w ↦ ap (λ b. thread.1 && b) (sym w.eq.ensures ∙ w.if-eq.false) ∙ and-false thread.1
      | else-can-via-else-can w ↦ ap (λ b. b && same) w.if-can.false
    ] in
    sym (is_able_more c.args.tid c.args.live.now c.loop-i.i _ false false c.at-other.ensures (sym c.loop-i.invariant) (sym no))
