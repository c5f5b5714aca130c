use Rattle.std.proofs.Common.{◌≡◌, ◌<◌, ◌≤◌, ◌+◌, ◌++◌, ◌∷◌, [], ℕ, List, ◌∙◌, ap, refl, sym, arith, length, map, take, length-take, get_or}
use Rattle.std.proofs.lemmas.List.{get_or-map, length-map, take_more}
use Rattle.stamp_lanes.specs.Plain.{class_of}
use Rattle.stamp_lanes.proofs.Classed.{more_classes, no_classes}
use Rattle.stamp_lanes.proofs.Mapped.{splatted}
use Rattle.stamp_lanes.proofs.classes.block_classes.Goals as goal

pub loop-start-init : goal.loop-start-init
loop-start-init g c =
    let fits : c.args.below ≤ g.B.Lane.Stamp.MAX = let room = c.requires.room in omega arith in
    let number : g.B.Lane.Stamp.number_of c.from_number.result ≡ c.args.below = ap g.B.Lane.Stamp.number_of c.from_number.ensures ∙ g.met.B.Lane.Stamp.number_back c.args.below fits in
    no_classes (g.B.Block.lanes c.args.block) _ c.args.below _ c.requires.sixteen c.splat-classes.ensures number

pub loop-start-preserved : goal.loop-start-preserved
loop-start-preserved g c =
    let room = c.requires.room in
    let test = c.loop-start-test.true in
    let long = c.requires.sixteen in
    let vs = g.B.Block.lanes c.args.block in
    let fits0 : 0 ≤ g.B.Lane.Stamp.MAX = omega arith in
    let fits1 : 1 ≤ g.B.Lane.Stamp.MAX = omega arith in
    let none : g.B.Lane.Stamp.number_of c.from_number-in-loop-start.result ≡ 0 = ap g.B.Lane.Stamp.number_of c.from_number-in-loop-start.ensures ∙ g.met.B.Lane.Stamp.number_back 0 fits0 in
    let one : g.B.Lane.Stamp.number_of c.from_number-in-loop-start-2.result ≡ 1 = ap g.B.Lane.Stamp.number_of c.from_number-in-loop-start-2.ensures ∙ g.met.B.Lane.Stamp.number_back 1 fits1 in
    let s = g.B.Lane.Stamp.number_of c.start-item.result in
    let k = c.loop-start.start-index in
    let starts = c.args.starts.now in
    let xs = map g.B.Lane.Stamp.number_of starts in
    let lt : k < length starts = omega arith in
    let size : length xs ≡ length starts = length-map starts g.B.Lane.Stamp.number_of in
    let lt2 : k < length xs = omega arith in
    let taken : length (take k xs) ≡ k = omega (arith, length-take k xs) in
    let fits : c.args.below + length (take k xs) + 1 ≤ g.B.Lane.Stamp.MAX = omega arith in
    let item : get_or xs k 0 ≡ s = get_or-map g.B.Lane.Stamp.number_of starts k c.start-item.result 0 lt ∙ ap g.B.Lane.Stamp.number_of (sym c.start-item.is) in
    more_classes vs (take k xs) _ _ _ _ _ _ c.args.below s g.B.Lane.Stamp.MAX fits c.loop-start.invariant
    (splatted vs s long c.splat.ensures refl) (splatted vs 0 long c.splat-none.ensures none) (splatted vs 1 long c.splat-one.ensures one) c.where_below.ensures c.sum-classes.ensures
    ∙ ap (λ (d : List ℕ). map (class_of d c.args.below) vs) (sym (take_more xs k 0 lt2 ∙ ap (λ (n : ℕ). take k xs ++ n ∷ []) item))
