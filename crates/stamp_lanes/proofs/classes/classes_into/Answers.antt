use Rattle.std.proofs.Common.{◌≡◌, ◌<◌, ◌≤◌, ◌+◌, ◌∙◌, ap, sym, arith, length, map, get_or, take}
use Rattle.std.proofs.lemmas.List.{get_or-map, length-map, map-set}
use Rattle.stamp_lanes.specs.Plain.{class_of}
use Rattle.stamp_lanes.proofs.Classed.{class_fits}
use Rattle.stamp_lanes.proofs.Written.{one_written}
use Rattle.stamp_lanes.proofs.classes.classes_into.Goals as goal

pub loop-at-preserved : goal.loop-at-preserved
loop-at-preserved g c =
    let stamps = c.args.stamps.now in
    let at = c.loop-at.at in
    let lt : at < length stamps = c.loop-at-test.true in
    let xs = map g.B.Lane.Stamp.number_of stamps in
    let starts = map g.B.Lane.Stamp.number_of c.args.starts.now in
    let into = map g.B.Lane.Stamp.number_of c.loop-at.into in
    let size : length xs ≡ length stamps = length-map stamps g.B.Lane.Stamp.number_of in
    let size2 : length into ≡ length c.loop-at.into = length-map c.loop-at.into g.B.Lane.Stamp.number_of in
    let size3 : length starts ≡ length c.args.starts.now = length-map c.args.starts.now g.B.Lane.Stamp.number_of in
    let lt2 : at < length xs = omega arith in
    let same : length xs ≡ length into = let e = c.requires.lengths in let f = c.loop-at.auto.into in let k = c.classes_of_blocks-at.ensures.length in omega arith in
    let room : c.args.below + length starts ≤ g.B.Lane.Stamp.MAX = let r = c.requires.room in omega arith in
    let item = c.index-stamps-at.result in
    let read : get_or xs at 0 ≡ g.B.Lane.Stamp.number_of item = get_or-map g.B.Lane.Stamp.number_of stamps at item 0 lt ∙ ap g.B.Lane.Stamp.number_of (sym c.index-stamps-at.is) in
    let fits : c.class_number.result ≤ g.B.Lane.Stamp.MAX = rw c.class_number.ensures (class_fits starts c.args.below (g.B.Lane.Stamp.number_of item) g.B.Lane.Stamp.MAX room) in
    let made = ap g.B.Lane.Stamp.number_of c.from_number.ensures ∙ (g.met.B.Lane.Stamp.number_back c.class_number.result fits ∙ c.class_number.ensures) in
    record {
      within = omega arith;
      written = ap (take (at + 1)) (map-set g.B.Lane.Stamp.number_of c.loop-at.into at c.from_number.result)
          ∙ one_written (class_of starts c.args.below) xs into (g.B.Lane.Stamp.number_of c.from_number.result) at (g.B.Lane.Stamp.number_of item) 0 lt2 same c.loop-at.invariant.written read made;
    }
