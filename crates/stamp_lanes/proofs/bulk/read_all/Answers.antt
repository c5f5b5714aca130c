use Rattle.std.proofs.Common.{◌≡◌, ◌≤◌, ◌<◌, ◌^◌, ◌∙◌, List, arith, length, map, refl, sym, subst, ap, get_or}
use Rattle.std.proofs.lemmas.List.{get_or-map, length-map, take_all}
use Rattle.stamp_lanes.specs.Plain.{IsBulk, Place, places}
use Rattle.stamp_lanes.proofs.Columns.{numbers_both, numbers_like, place_columns, places_length}
use Rattle.stamp_lanes.proofs.Read.{bulk_more, more_fits, one_place}
use Rattle.stamp_lanes.proofs.bulk.read_all.Goals as goal

pub both-counts-requires : goal.both-counts-requires
both-counts-requires g c =
    let at = c.loop-at.at in
    let start = g.B.Lane.Stamp.number_of c.args.start in
    let os = map g.B.Lane.Stamp.number_of c.args.own.now in
    let ws = map g.B.Lane.Stamp.number_of c.args.write.now in
    let ms = c.args.marks.now in
    let ps = places os ws ms in
    let e = numbers_both g.B.Lane.Stamp.number_of c.args.own.now c.args.write.now c.requires.lengths.0 in
    let f = numbers_like g.B.Lane.Stamp.number_of c.args.own.now ms c.requires.lengths.1 in
    let own_size : length os ≡ length c.args.own.now = length-map c.args.own.now g.B.Lane.Stamp.number_of in
    let size = places_length os ws ms e f in
    let test = c.loop-at-test.true in
    let inside : at < length ps = omega arith in
    let inside2 : at < length c.args.write.now = let same = c.requires.lengths.0 in omega arith in
    let few : length ps ≤ 2 ^ 30 = let most = c.requires.few in omega arith in
    let own = get_or-map g.B.Lane.Stamp.number_of c.args.own.now at c.index-own-at.result 0 test ∙ ap g.B.Lane.Stamp.number_of (sym c.index-own-at.is) in
    let write = get_or-map g.B.Lane.Stamp.number_of c.args.write.now at c.index-write-at.result 0 inside2 ∙ ap g.B.Lane.Stamp.number_of (sym c.index-write-at.is) in
    let place = one_place os ws ms ps (place_columns os ws ms e f) at (g.B.Lane.Stamp.number_of c.index-own-at.result) (g.B.Lane.Stamp.number_of c.index-write-at.result) (get_or ms at 0) inside own write refl in
    let more = subst (λ (qs : List Place). IsBulk start qs c.read_place.result) place c.read_place.ensures in
    let fits = more_fits start ps at 1 c.loop-at.counts c.read_place.result few (omega arith) c.loop-at.invariant.counts more in
    record { plain = fits.plain; thread = fits.thread; kernel = fits.kernel; untouched = fits.untouched; old = fits.old }

pub loop-at-preserved : goal.loop-at-preserved
loop-at-preserved g c =
    let at = c.loop-at.at in
    let start = g.B.Lane.Stamp.number_of c.args.start in
    let os = map g.B.Lane.Stamp.number_of c.args.own.now in
    let ws = map g.B.Lane.Stamp.number_of c.args.write.now in
    let ms = c.args.marks.now in
    let ps = places os ws ms in
    let e = numbers_both g.B.Lane.Stamp.number_of c.args.own.now c.args.write.now c.requires.lengths.0 in
    let f = numbers_like g.B.Lane.Stamp.number_of c.args.own.now ms c.requires.lengths.1 in
    let own_size : length os ≡ length c.args.own.now = length-map c.args.own.now g.B.Lane.Stamp.number_of in
    let size = places_length os ws ms e f in
    let test = c.loop-at-test.true in
    let inside : at < length ps = omega arith in
    let inside2 : at < length c.args.write.now = let same = c.requires.lengths.0 in omega arith in
    let own = get_or-map g.B.Lane.Stamp.number_of c.args.own.now at c.index-own-at.result 0 test ∙ ap g.B.Lane.Stamp.number_of (sym c.index-own-at.is) in
    let write = get_or-map g.B.Lane.Stamp.number_of c.args.write.now at c.index-write-at.result 0 inside2 ∙ ap g.B.Lane.Stamp.number_of (sym c.index-write-at.is) in
    let place = one_place os ws ms ps (place_columns os ws ms e f) at (g.B.Lane.Stamp.number_of c.index-own-at.result) (g.B.Lane.Stamp.number_of c.index-write-at.result) (get_or ms at 0) inside own write refl in
    let more = subst (λ (qs : List Place). IsBulk start qs c.read_place.result) place c.read_place.ensures in
    record {
      end = omega arith;
      counts = bulk_more start ps at 1 c.loop-at.counts c.read_place.result c.both-counts.result c.both-counts.ensures c.loop-at.invariant.counts more;
    }

pub returns : goal.returns
returns g c =
    let os = map g.B.Lane.Stamp.number_of c.args.own.now in
    let ws = map g.B.Lane.Stamp.number_of c.args.write.now in
    let ms = c.args.marks.now in
    let ps = places os ws ms in
    let e = numbers_both g.B.Lane.Stamp.number_of c.args.own.now c.args.write.now c.requires.lengths.0 in
    let f = numbers_like g.B.Lane.Stamp.number_of c.args.own.now ms c.requires.lengths.1 in
    let own_size : length os ≡ length c.args.own.now = length-map c.args.own.now g.B.Lane.Stamp.number_of in
    let size = places_length os ws ms e f in
    let test = c.loop-at-test.false in
    let whole : length ps ≤ c.loop-at.at = omega arith in
    subst (λ (qs : List Place). IsBulk (g.B.Lane.Stamp.number_of c.args.start) qs c.loop-at.counts) (take_all c.loop-at.at ps whole) c.loop-at.invariant.counts
