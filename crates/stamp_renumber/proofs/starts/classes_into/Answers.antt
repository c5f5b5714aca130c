use Rattle.std.proofs.Common.{ℕ, List, ◌≤◌, ◌-◌, length, map, take, drop, sym, ap, ◌∙◌, arith, rules}
use Rattle.stamp_lanes.specs.Plain.{class_of}
use Rattle.std.proofs.lemmas.List.{length-map, take-map, drop-map}
use Rattle.stamp_renumber.proofs.Sorted.{Parts, parts_in_order, row_classes}
use Rattle.stamp_renumber.proofs.starts.classes_into.Goals as goal

pub slice_bounds-classes_into-count : goal.slice_bounds-classes_into-count
slice_bounds-classes_into-count g c =
    let f = g.S.Stamp.number_of in
    parts_in_order (map f c.args.stamps.now) (map f c.args.starts.now) _ _ c.class_of-low.result c.class_of-high.result c.in-Some.ensures (omega (arith, length-map c.args.starts.now f, c.class_of-low.ensures.within))
    (record { low = c.class_of-low.ensures.below; high = λ i a b. c.class_of-low.ensures.above i a (omega (arith, b, length-map c.args.starts.now f)) })
    (record { low = c.class_of-high.ensures.below; high = λ i a b. c.class_of-high.ensures.above i a (omega (arith, b, length-map c.args.starts.now f)) })

pub slice_bounds-classes_into-start : goal.slice_bounds-classes_into-start
slice_bounds-classes_into-start g c =
    let f = g.S.Stamp.number_of in
    let order : c.class_of-low.result ≤ c.class_of-high.result =
    parts_in_order (map f c.args.stamps.now) (map f c.args.starts.now) _ _ c.class_of-low.result c.class_of-high.result c.in-Some.ensures (omega (arith, length-map c.args.starts.now f, c.class_of-low.ensures.within))
    (record { low = c.class_of-low.ensures.below; high = λ i a b. c.class_of-low.ensures.above i a (omega (arith, b, length-map c.args.starts.now f)) })
    (record { low = c.class_of-high.ensures.below; high = λ i a b. c.class_of-high.ensures.above i a (omega (arith, b, length-map c.args.starts.now f)) })
    in search rules

pub returns-in-Some : goal.returns-in-Some
returns-in-Some g c =
    let f = g.S.Stamp.number_of in
    let starts = map f c.args.starts.now in
    let low = c.class_of-low.result in
    let high = c.class_of-high.result in
    let low_parts : Parts starts low (f c.in-Some.ends.0) = record { low = c.class_of-low.ensures.below; high = λ i a b. c.class_of-low.ensures.above i a (omega (arith, b, length-map c.args.starts.now f)) } in
    let high_parts : Parts starts high (f c.in-Some.ends.1) = record { low = c.class_of-high.ensures.below; high = λ i a b. c.class_of-high.ensures.above i a (omega (arith, b, length-map c.args.starts.now f)) } in
    let within : low ≤ length starts = omega (arith, length-map c.args.starts.now f, c.class_of-low.ensures.within) in
    let order = parts_in_order (map f c.args.stamps.now) starts _ _ low high c.in-Some.ensures within low_parts high_parts in
    c.classes_into.ensures
    ∙ ap (λ (xs : List ℕ). map (class_of xs low) (map f c.args.stamps.now)) (sym (take-map f (high - low) (drop low c.args.starts.now)) ∙ ap (λ (xs : List ℕ). take (high - low) xs) (sym (drop-map f low c.args.starts.now)))
    ∙ row_classes (map f c.args.stamps.now) starts (f c.in-Some.ends.0) (f c.in-Some.ends.1) low high c.in-Some.ensures order (omega (arith, length-map c.args.starts.now f, c.class_of-high.ensures.within)) low_parts.low high_parts.high
