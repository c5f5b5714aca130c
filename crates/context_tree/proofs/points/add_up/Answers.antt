use Rattle.std.proofs.Common.{◌∙◌, ◌-◌, ℕ, length, ap, refl}
use Rattle.std.proofs.lemmas.List.{length-set}
use Rattle.context_tree.proofs.Climbing.{are_points, below_more, next_up, points_more}
use Rattle.context_tree.proofs.points.add_up.Goals as goal

pub add-requires-clause-points : goal.add-requires-clause-points
add-requires-clause-points c =
    are_points c.args.numbers.now c.args.from (length c.args.ended.now) c.loop-done.done-index c.loop-done.number c.requires.way c.loop-done-test.true c.loop-done.invariant.at c.args.points.now.items c.loop-done.points.items
    c.loop-done.invariant.long c.loop-done.invariant.below c.index_mut-context.result.now c.index_mut-context.ensures.value c.requires.long c.requires.each

pub loop-done-preserved : goal.loop-done-preserved
loop-done-preserved c =
    let places = c.args.numbers.now in
    record {
      at = next_up places c.args.from (length c.args.ended.now) c.loop-done.done-index c.loop-done.number c.requires.way c.loop-done-test.true c.loop-done.invariant.at c.place-number.result.0 (ap (λ (p : ℕ × ℕ). p.0) c.place-number.ensures.here);
      long = length-set c.loop-done.points.items (c.loop-done.number - 1) c.add.new.self ∙ c.loop-done.invariant.long;
      below = below_more places c.args.from (length c.args.ended.now) c.loop-done.done-index c.loop-done.number c.requires.way c.loop-done-test.true c.loop-done.invariant.at c.args.points.now.items c.loop-done.points.items
          c.loop-done.invariant.long c.loop-done.invariant.below c.place-number.result.0 c.add.new.self (ap (λ (p : ℕ × ℕ). p.0) c.place-number.ensures.here);
      points = λ contexts members stands are.
          points_more places c.args.from (length c.args.ended.now) c.loop-done.done-index c.loop-done.number c.requires.way c.loop-done-test.true c.loop-done.invariant.at c.args.points.now.items c.loop-done.points.items
          c.loop-done.invariant.long c.loop-done.invariant.below c.index_mut-context.result.now c.add.new.self c.args.ended.now c.done-item.result refl c.index_mut-context.ensures.value c.done-item.is c.add.ensures
          contexts members stands (c.loop-done.invariant.points contexts members stands are);
    }
