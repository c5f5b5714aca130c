use Rattle.std.proofs.Common.{max, min}
use Rattle.stamp_lanes.proofs.Folds.{fold_one_more}
use Rattle.stamp_lanes.proofs.extremes.scalar_extremes.Goals as goal

pub loop-stamp-preserved : goal.loop-stamp-preserved
loop-stamp-preserved g c =
    let stamps = c.args.stamps.now in
    let before = c.loop-stamp.invariant in
    let within = c.loop-stamp-test.true in
    let k = c.loop-stamp.stamp-index in
    record {
      least = fold_one_more min g.S.Stamp.number_of stamps k c.stamp-item.result _ _ _ within c.stamp-item.is before.least c.lesser-low.ensures;
      greatest = fold_one_more max g.S.Stamp.number_of stamps k c.stamp-item.result _ _ _ within c.stamp-item.is before.greatest c.greater-high.ensures;
    }
