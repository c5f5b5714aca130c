use Rattle.std.proofs.Common.{◌≡◌, ℕ, ◌∙◌, ap, ap₂, sym, length, map, min, max, drop, take, ◌-◌, replicate, Some}
use Rattle.std.specs.List.{fold}
use Rattle.std.specs.Simd.Lanes.{put_chunk}
use Rattle.std.proofs.lemmas.List.{drop-map, length-map, length-replicate, take_rest}
use Rattle.std.proofs.lemmas.Simd.{put_chunk_whole}
use Rattle.stamp_lanes.proofs.Folds.{extremes_first, max_whole, min_whole}
use Rattle.stamp_lanes.proofs.extremes.least_greatest.Goals as goal

pub returns : goal.returns
returns g c =
    let stamps = c.args.stamps.now in
    let head = c.in_ok-first.field-0.now in
    let blocks = c.block_extremes-low in
    let low = g.B.Block.lanes blocks.result.0 in
    let high = g.B.Block.lanes blocks.result.1 in
    let size : length (map g.B.Lane.Stamp.number_of (replicate 16 head)) ≡ 16 = length-map (replicate 16 head) g.B.Lane.Stamp.number_of ∙ length-replicate 16 head in
    let lows : map g.B.Lane.Stamp.number_of c.store.new.into ≡ put_chunk 0 (map g.B.Lane.Stamp.number_of (replicate 16 head)) low = c.store.ensures in
    let highs : map g.B.Lane.Stamp.number_of c.store-2.new.into ≡ put_chunk 0 (map g.B.Lane.Stamp.number_of (replicate 16 head)) high = c.store-2.ensures in
    let least : g.B.Lane.Stamp.number_of c.scalar_extremes-least.result.0 ≡ fold min (g.B.Lane.Stamp.number_of head) (map g.B.Lane.Stamp.number_of c.store.new.into) = c.scalar_extremes-least.ensures.least in
    let greatest : g.B.Lane.Stamp.number_of c.scalar_extremes-greatest.result.1 ≡ fold max (g.B.Lane.Stamp.number_of head) (map g.B.Lane.Stamp.number_of c.store-2.new.into) = c.scalar_extremes-greatest.ensures.greatest in
    let at = blocks.result.2 in
    let last_least : g.B.Lane.Stamp.number_of c.scalar_extremes-2.result.0 ≡ fold min (g.B.Lane.Stamp.number_of c.scalar_extremes-least.result.0) (map g.B.Lane.Stamp.number_of (take (length stamps - at) (drop at stamps))) = c.scalar_extremes-2.ensures.least in
    let last_greatest : g.B.Lane.Stamp.number_of c.scalar_extremes-2.result.1 ≡ fold max (g.B.Lane.Stamp.number_of c.scalar_extremes-greatest.result.1) (map g.B.Lane.Stamp.number_of (take (length stamps - at) (drop at stamps))) = c.scalar_extremes-2.ensures.greatest in
    let rest : map g.B.Lane.Stamp.number_of (take (length stamps - at) (drop at stamps)) ≡ drop at (map g.B.Lane.Stamp.number_of stamps) = ap (map g.B.Lane.Stamp.number_of) (take_rest stamps at) ∙ sym (drop-map g.B.Lane.Stamp.number_of at stamps) in
    let xs = map g.B.Lane.Stamp.number_of stamps in
    let first = g.B.Lane.Stamp.number_of head in
    let low_lanes = lows ∙ put_chunk_whole (map g.B.Lane.Stamp.number_of (replicate 16 head)) low (size ∙ sym blocks.ensures.sixteen.0) in
    let high_lanes = highs ∙ put_chunk_whole (map g.B.Lane.Stamp.number_of (replicate 16 head)) high (size ∙ sym blocks.ensures.sixteen.1) in
    let one = min_whole xs low at first _ _ (least ∙ ap (fold min first) low_lanes) blocks.ensures.least (last_least ∙ ap (fold min (g.B.Lane.Stamp.number_of c.scalar_extremes-least.result.0)) rest) in
    let two = max_whole xs high at first _ _ (greatest ∙ ap (fold max first) high_lanes) blocks.ensures.greatest (last_greatest ∙ ap (fold max (g.B.Lane.Stamp.number_of c.scalar_extremes-greatest.result.1)) rest) in
    ap₂ (λ (a b : ℕ). Some (a, b)) one two ∙ sym (extremes_first g.B.Lane.Stamp.number_of stamps head c.in_ok-first.ensures.value)
