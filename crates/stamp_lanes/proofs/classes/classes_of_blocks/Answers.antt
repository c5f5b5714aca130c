use Rattle.std.proofs.Common.{◌≡◌, ◌≤◌, ◌+◌, ◌∙◌, ap, arith, length, map}
use Rattle.std.proofs.lemmas.List.{length-map}
use Rattle.stamp_lanes.specs.Plain.{class_of}
use Rattle.stamp_lanes.proofs.Loaded.{loaded_is, loaded_length}
use Rattle.stamp_lanes.proofs.Written.{block_written}
use Rattle.stamp_lanes.proofs.classes.classes_of_blocks.Goals as goal

pub loop-at-preserved : goal.loop-at-preserved
loop-at-preserved g c =
    let test = c.loop-at-test.true in
    let stamps = c.args.stamps.now in
    let at = c.loop-at.at in
    let room : at + 16 ≤ length stamps = omega arith in
    let xs = map g.B.Lane.Stamp.number_of stamps in
    let into = map g.B.Lane.Stamp.number_of c.loop-at.into in
    let class = class_of (map g.B.Lane.Stamp.number_of c.args.starts.now) c.args.below in
    let size : length xs ≡ length stamps = length-map stamps g.B.Lane.Stamp.number_of in
    let size2 : length into ≡ length c.loop-at.into = length-map c.loop-at.into g.B.Lane.Stamp.number_of in
    let room2 : at + 16 ≤ length xs = omega arith in
    let same : length xs ≡ length into = let e = c.requires.lengths in let f = c.loop-at.auto.into in omega arith in
    let block = g.B.Block.lanes c.load.result in
    let long = loaded_length g.B.Lane.Stamp.number_of stamps at block room c.load.ensures in
    let is = loaded_is g.B.Lane.Stamp.number_of stamps at block c.load.ensures in
    let made_long = length-map block class in
    let lanes_long : length (g.B.Block.lanes c.block_classes.result) ≡ 16 = ap length c.block_classes.ensures ∙ (made_long ∙ long) in
    record {
      within = room;
      written = block_written class xs into _ (g.B.Block.lanes c.block_classes.result) at room2 same lanes_long c.loop-at.invariant.written (c.block_classes.ensures ∙ ap (map class) is) c.store.ensures;
    }
