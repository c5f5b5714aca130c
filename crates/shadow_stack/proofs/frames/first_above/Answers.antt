use Rattle.std.proofs.Common.{◌+◌, ◌-◌, ◌/◌, ◌<◌, ◌∙◌, sym, arith, length}
use Rattle.std.proofs.lemmas.List.{get_or-map, length-map}
use Rattle.shadow_stack.proofs.Halving.{halved_next}
use Rattle.shadow_stack.proofs.Rising.{rising_at_most, rising_above}
use Rattle.shadow_stack.proofs.frames.first_above.Goals as goal

pub loop-low-preserved-then-start-n : goal.loop-low-preserved-then-start-n
loop-low-preserved-then-start-n g c =
    let old = c.loop-low.invariant in
    let order = old.order in
    let within = old.within in
    let lt = c.loop-low-test.true in
    let m = c.loop-low.low + (c.loop-low.high - c.loop-low.low) / 2 in
    let inside : m < length c.args.frames.now = omega arith in
    let at = get_or-map (λ x. g.S.Stamp.number_of x.start) c.args.frames.now m c.index-frames-middle.result 0 inside in
    let start_is = at ∙ sym c.number-start.ensures.value in
    record {
      order = omega arith;
      within = within;
      below = rising_at_most _ m c.args.n c.requires (rw length-map inside) (rw start_is c.if-start-n.true);
      above = old.above;
      counted = omega (arith, c.tick.ensures, old.counted);
      cost = halved_next _ _ _ _ _ _ _ _ old.cost old.counted c.tick.ensures lt (omega arith);
    }

pub loop-low-preserved : goal.loop-low-preserved
loop-low-preserved g c =
    let old = c.loop-low.invariant in
    let order = old.order in
    let within = old.within in
    let lt = c.loop-low-test.true in
    let m = c.loop-low.low + (c.loop-low.high - c.loop-low.low) / 2 in
    let inside : m < length c.args.frames.now = omega arith in
    let at = get_or-map (λ x. g.S.Stamp.number_of x.start) c.args.frames.now m c.index-frames-middle.result 0 inside in
    let start_is = at ∙ sym c.number-start.ensures.value in
    record {
      order = omega arith;
      within = omega arith;
      below = old.below;
      above = λ i low high. rising_above _ m c.args.n c.requires (rw start_is c.if-start-n.false) i low (rw length-map high);
      counted = omega (arith, c.tick.ensures, old.counted);
      cost = halved_next _ _ _ _ _ _ _ _ old.cost old.counted c.tick.ensures lt (omega arith);
    }
