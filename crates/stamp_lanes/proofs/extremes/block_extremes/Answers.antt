use Rattle.std.proofs.Common.{◌≡◌, ◌+◌, ◌≤◌, ◌∙◌, ap, sym, arith, length, map, min, max}
use Rattle.std.specs.List.{fold}
use Rattle.std.proofs.lemmas.Simd.{length-zip2}
use Rattle.stamp_lanes.proofs.Folds.{greater_lanes, lesser_lanes, max_more, min_more}
use Rattle.stamp_lanes.proofs.Loaded.{loaded_is, loaded_length}
use Rattle.stamp_lanes.proofs.extremes.block_extremes.Goals as goal

pub loop-at-preserved : goal.loop-at-preserved
loop-at-preserved g c =
    let test = c.loop-at-test.true in
    let old = c.loop-at.invariant in
    let stamps = c.args.stamps.now in
    let at = c.loop-at.at in
    let room : at + 16 ≤ length stamps = omega arith in
    let xs = map g.B.Lane.Stamp.number_of stamps in
    let low = g.B.Block.lanes c.loop-at.low in
    let high = g.B.Block.lanes c.loop-at.high in
    let block = g.B.Block.lanes c.load-block.result in
    let long : length block ≡ 16 = loaded_length g.B.Lane.Stamp.number_of stamps at block room c.load-block.ensures in
    let is = loaded_is g.B.Lane.Stamp.number_of stamps at block c.load-block.ensures in
    let low_same = old.low_len ∙ sym long in
    let high_same = old.high_len ∙ sym long in
    let lower = lesser_lanes low block (g.B.Block.lanes c.where_below-low.result) c.where_below-low.ensures in
    let higher = greater_lanes high block (g.B.Block.lanes c.where_below-high.result) c.where_below-high.ensures in
    record {
      end = room;
      low_len = ap length lower ∙ (length-zip2 min low block low_same ∙ old.low_len);
      high_len = ap length higher ∙ (length-zip2 max high block high_same ∙ old.high_len);
      least = λ a. ap (fold min a) lower ∙ min_more xs low block at a old.least low_same is;
      greatest = λ a. ap (fold max a) higher ∙ max_more xs high block at a old.greatest high_same is;
    }
