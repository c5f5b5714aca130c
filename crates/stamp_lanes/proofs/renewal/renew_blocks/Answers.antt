use Rattle.std.proofs.Common.{◌≡◌, ◌≤◌, ◌<◌, ◌+◌, ◌∙◌, sym, arith, length, map, take, drop}
use Rattle.std.proofs.lemmas.List.{length-map}
use Rattle.stamp_lanes.specs.Plain.{renewals, renewed}
use Rattle.stamp_lanes.proofs.Columns.{as_many, column_length, loaded_renewals}
use Rattle.stamp_lanes.proofs.Loaded.{loaded_is, loaded_length}
use Rattle.stamp_lanes.proofs.Renewed.{room_part, three_fit}
use Rattle.stamp_lanes.proofs.Written.{block_written}
use Rattle.stamp_lanes.proofs.renewal.renew_blocks.Goals as goal

pub renewed_block-renewed-requires : goal.renewed_block-renewed-requires
renewed_block-renewed-requires g c =
    let test = c.loop-at-test.true in
    let lengths = c.requires.lengths in
    let at = c.loop-at.at in
    let room : at + 16 ≤ length c.args.own.now = omega arith in
    let ks = map g.B.Lane.Stamp.number_of c.args.own_class.now in
    let size : length ks ≡ length c.args.own_class.now = length-map c.args.own_class.now g.B.Lane.Stamp.number_of in
    let same : length c.args.own.now ≡ length c.args.own_class.now = lengths.0 ∙ sym lengths.1 in
    let room2 : at + 16 ≤ length ks = omega arith in
    let inside : at < length ks = omega arith in
    let is = loaded_is g.B.Lane.Stamp.number_of c.args.own_class.now at (g.B.Block.lanes c.load-classes.result) c.load-classes.ensures in
    record {
      sixteen = loaded_length g.B.Lane.Stamp.number_of c.args.own.now at _ room c.load-stamps.ensures;
      width = three_fit g.B.Lane.Stamp.MAX ks at inside c.requires.room;
      room = room_part g.B.Lane.Stamp.MAX ks (g.B.Block.lanes c.load-classes.result) at room2 is c.requires.room;
    }

pub store-requires : goal.store-requires
store-requires g c =
    let test = c.loop-at-test.true in
    let lengths = c.requires.lengths.0 in
    let kept = c.loop-at.auto.into in
    let at = c.loop-at.at in
    let number = g.B.Lane.Stamp.number_of in
    let room : at + 16 ≤ length c.args.own.now = omega arith in
    let rs = renewals (map number c.args.own.now) (map number c.args.own_class.now) (map number c.args.write.now) (map number c.args.write_class.now) in
    let part = take 16 (drop at rs) in
    let columns = loaded_renewals number c.args.own.now c.args.own_class.now c.args.write.now c.args.write_class.now c.args.into.now c.requires.lengths
    (g.B.Block.lanes c.load-stamps.result) (g.B.Block.lanes c.load-classes.result) (g.B.Block.lanes c.load.result) (g.B.Block.lanes c.load-in-loop-at.result) at
    c.load-stamps.ensures c.load-classes.ensures c.load.ensures c.load-in-loop-at.ensures in
    let made = c.renewed_block-renewed.ensures part columns.own columns.own_class columns.write columns.write_class in
    let long : length part ≡ 16 = sym (column_length _ part (g.B.Block.lanes c.load-stamps.result) columns.own) ∙ loaded_length number c.args.own.now at _ room c.load-stamps.ensures in
    record { room = omega arith; sixteen = column_length renewed part (g.B.Block.lanes c.renewed_block-renewed.result) made ∙ long }

pub loop-at-preserved : goal.loop-at-preserved
loop-at-preserved g c =
    let test = c.loop-at-test.true in
    let lengths = c.requires.lengths.0 in
    let kept = c.loop-at.auto.into in
    let at = c.loop-at.at in
    let number = g.B.Lane.Stamp.number_of in
    let room : at + 16 ≤ length c.args.own.now = omega arith in
    let rs = renewals (map number c.args.own.now) (map number c.args.own_class.now) (map number c.args.write.now) (map number c.args.write_class.now) in
    let part = take 16 (drop at rs) in
    let columns = loaded_renewals number c.args.own.now c.args.own_class.now c.args.write.now c.args.write_class.now c.args.into.now c.requires.lengths
    (g.B.Block.lanes c.load-stamps.result) (g.B.Block.lanes c.load-classes.result) (g.B.Block.lanes c.load.result) (g.B.Block.lanes c.load-in-loop-at.result) at
    c.load-stamps.ensures c.load-classes.ensures c.load.ensures c.load-in-loop-at.ensures in
    let made = c.renewed_block-renewed.ensures part columns.own columns.own_class columns.write columns.write_class in
    let long : length part ≡ 16 = sym (column_length _ part (g.B.Block.lanes c.load-stamps.result) columns.own) ∙ loaded_length number c.args.own.now at _ room c.load-stamps.ensures in
    let lanes_long = column_length renewed part (g.B.Block.lanes c.renewed_block-renewed.result) made ∙ long in
    let many : length rs ≡ length c.args.own.now = as_many number c.args.own.now c.args.own_class.now c.args.write.now c.args.write_class.now c.args.into.now c.requires.lengths in
    let into = map number c.loop-at.into in
    let into_size : length into ≡ length c.loop-at.into = length-map c.loop-at.into number in
    let room2 : at + 16 ≤ length rs = omega arith in
    let same : length rs ≡ length into = omega arith in
    record {
      within = room;
      written = block_written renewed rs into _ (g.B.Block.lanes c.renewed_block-renewed.result) at room2 same lanes_long c.loop-at.invariant.written made c.store.ensures;
    }
