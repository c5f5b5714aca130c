use Rattle.std.proofs.Common.{◌≡◌, ◌+◌, ◌≤◌, ◌^◌, arith, length, map, take, drop}
use Rattle.std.proofs.lemmas.List.{length-map}
use Rattle.stamp_lanes.specs.Plain.{places}
use Rattle.stamp_lanes.proofs.Columns.{block_columns, numbers_both, numbers_like, places_length}
use Rattle.stamp_lanes.proofs.Loaded.{loaded_is, loaded_length}
use Rattle.stamp_lanes.proofs.Read.{bulk_more, more_fits}
use Rattle.stamp_lanes.proofs.bulk.read_blocks.Goals as goal

pub read_block-more-requires : goal.read_block-more-requires
read_block-more-requires g c =
    let test = c.loop-at-test.true in
    let room : c.loop-at.at + 16 ≤ length c.args.own.now = omega arith in
    let long : length (g.B.Block.lanes c.load-stamps.result) ≡ 16 = loaded_length g.B.Lane.Stamp.number_of c.args.own.now c.loop-at.at _ room c.load-stamps.ensures in
    long

pub both-counts-requires : goal.both-counts-requires
both-counts-requires g c =
    let at = c.loop-at.at in
    let os = map g.B.Lane.Stamp.number_of c.args.own.now in
    let ws = map g.B.Lane.Stamp.number_of c.args.write.now in
    let ms = c.args.marks.now in
    let e = numbers_both g.B.Lane.Stamp.number_of c.args.own.now c.args.write.now c.requires.lengths.0 in
    let f = numbers_like g.B.Lane.Stamp.number_of c.args.own.now ms c.requires.lengths.1 in
    let size = places_length os ws ms e f in
    let own_size : length os ≡ length c.args.own.now = length-map c.args.own.now g.B.Lane.Stamp.number_of in
    let few : length (places os ws ms) ≤ 2 ^ 30 = let most = c.requires.few in omega arith in
    let own = loaded_is g.B.Lane.Stamp.number_of c.args.own.now at (g.B.Block.lanes c.load-stamps.result) c.load-stamps.ensures in
    let write = loaded_is g.B.Lane.Stamp.number_of c.args.write.now at (g.B.Block.lanes c.load.result) c.load.ensures in
    let columns = block_columns os ws ms (g.B.Block.lanes c.load-stamps.result) (g.B.Block.lanes c.load.result) (g.B.Block.lanes c.load_marks.result) at e f own write c.load_marks.ensures in
    let more = c.read_block-more.ensures (take 16 (drop at (places os ws ms))) columns.own columns.write columns.mark in
    let fits = more_fits (g.B.Lane.Stamp.number_of c.args.start) (places os ws ms) at 16 c.loop-at.counts c.read_block-more.result few (omega arith) c.loop-at.invariant.counts more in
    record { plain = fits.plain; thread = fits.thread; kernel = fits.kernel; untouched = fits.untouched; old = fits.old }

pub loop-at-preserved : goal.loop-at-preserved
loop-at-preserved g c =
    let at = c.loop-at.at in
    let test = c.loop-at-test.true in
    let os = map g.B.Lane.Stamp.number_of c.args.own.now in
    let ws = map g.B.Lane.Stamp.number_of c.args.write.now in
    let ms = c.args.marks.now in
    let e = numbers_both g.B.Lane.Stamp.number_of c.args.own.now c.args.write.now c.requires.lengths.0 in
    let f = numbers_like g.B.Lane.Stamp.number_of c.args.own.now ms c.requires.lengths.1 in
    let own = loaded_is g.B.Lane.Stamp.number_of c.args.own.now at (g.B.Block.lanes c.load-stamps.result) c.load-stamps.ensures in
    let write = loaded_is g.B.Lane.Stamp.number_of c.args.write.now at (g.B.Block.lanes c.load.result) c.load.ensures in
    let columns = block_columns os ws ms (g.B.Block.lanes c.load-stamps.result) (g.B.Block.lanes c.load.result) (g.B.Block.lanes c.load_marks.result) at e f own write c.load_marks.ensures in
    let more = c.read_block-more.ensures (take 16 (drop at (places os ws ms))) columns.own columns.write columns.mark in
    record {
      end = omega arith;
      counts = bulk_more (g.B.Lane.Stamp.number_of c.args.start) (places os ws ms) at 16 c.loop-at.counts c.read_block-more.result c.both-counts.result c.both-counts.ensures c.loop-at.invariant.counts more;
    }
