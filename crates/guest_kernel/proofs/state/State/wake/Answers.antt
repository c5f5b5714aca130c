use Rattle.std.proofs.Common.{arith, sym, ◌∙◌}
use Rattle.guest_kernel.proofs.Wakings.{all_found, all_woken, one_woken}
use Rattle.guest_kernel.proofs.state.State.wake.Goals as goal

pub returns-then-not-wake_first-clause-count : goal.returns-then-not-wake_first-clause-count
returns-then-not-wake_first-clause-count c =
    (all_found c.args.self.now c.loop-count.self c.wake_first.new.self c.args.at c.args.bits c.args.most c.loop-count.count c.loop-count.invariant c.wake_first.ensures.after (sym c.wake_first.ensures.found ∙ c.if-not-wake_first.true)).count_is

pub returns-then-not-wake_first-clause-after : goal.returns-then-not-wake_first-clause-after
returns-then-not-wake_first-clause-after c =
    (all_found c.args.self.now c.loop-count.self c.wake_first.new.self c.args.at c.args.bits c.args.most c.loop-count.count c.loop-count.invariant c.wake_first.ensures.after (sym c.wake_first.ensures.found ∙ c.if-not-wake_first.true)).state

pub loop-count-preserved : goal.loop-count-preserved
loop-count-preserved c =
    one_woken c.args.self.now c.loop-count.self c.wake_first.new.self c.args.at c.args.bits c.args.most c.loop-count.count c.wake_first.ensures.once c.loop-count.invariant c.loop-count-test.true c.wake_first.ensures.after (sym c.wake_first.ensures.found ∙ c.if-not-wake_first.false)

pub returns-clause-after : goal.returns-clause-after
returns-clause-after c =
    (all_woken c.args.self.now c.loop-count.self c.args.at c.args.bits c.args.most c.loop-count.count c.loop-count.invariant (omega (arith, c.loop-count-test.false))).state
