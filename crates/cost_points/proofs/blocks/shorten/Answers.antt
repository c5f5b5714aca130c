use Rattle.std.proofs.Common.{ℕ, ◌≡◌, ◌+◌, ◌-◌, ◌<◌, ◌≤◌, [], suc, List, ap, arith, get_or, length, map, rules, subst, sym, ◌∙◌}
use Rattle.std.proofs.lemmas.List.{length-drop, length-map, length-take-le}
use Rattle.cost_points.specs.Joined.{IsFilled, joined}
use Rattle.cost_points.specs.Places.{before}
use Rattle.cost_points.specs.Private.Blocks.{with_item}
use Rattle.cost_points.proofs.InBlocks.{filled_cut, joined_cut, length-cut, lower_half, read_block, upper_half, with_item_high, with_item_low}
use Rattle.cost_points.proofs.Indexed.{before_cut}
use Rattle.cost_points.proofs.blocks.shorten.Goals as goal

within : {V A : Type 0} (f : V → List A) (vs : List V) (b : ℕ) → b < length vs → b < length (map f vs)
within f vs b inside = omega (arith, inside, length-map vs f)

long_enough : {V A : Type 0} (f : V → List A) (vs : List V) (b n : ℕ) (v : V) → b < length vs → v ≡ get_or vs b v → n ≤ length (f v) → n ≤ length (get_or (map f vs) b [])
long_enough f vs b n v inside read long = subst (λ ys. n ≤ length ys) (read_block f vs b v inside read) long

pub returns-then-place-le-HALF-clause-block : goal.returns-then-place-le-HALF-clause-block
returns-then-place-le-HALF-clause-block g c =
    let bs = map (λ v. v.items) c.args.blocks.now.items in
    let inside = within (λ v. v.items) c.args.blocks.now.items c.args.place.block c.requires.inside in
    omega (arith, c.requires.inside, ap length c.in_ok-cut_block.ensures.ok, length-cut 64 bs c.args.place.block inside, length-map c.args.blocks.now.items (λ v. v.items), length-map c.cut_block.new.blocks.items (λ v. v.items))

pub returns-then-place-le-HALF-clause-at : goal.returns-then-place-le-HALF-clause-at
returns-then-place-le-HALF-clause-at g c =
    let bs = map (λ v. v.items) c.args.blocks.now.items in
    let b = c.args.place.block in
    let inside = within (λ v. v.items) c.args.blocks.now.items c.args.place.block c.requires.inside in
    let long = long_enough (λ v. v.items) c.args.blocks.now.items c.args.place.block 128 c.index.result.now c.requires.inside c.index.ensures (search rules) in
    subst (λ ys. c.args.place.at ≤ length (get_or ys b [])) (sym c.in_ok-cut_block.ensures.ok)
    (omega (arith, c.if-place-le-HALF.true, ap length (lower_half 64 bs b inside), length-take-le 64 (get_or bs b []) (omega (arith, long))))

pub returns-then-place-le-HALF-clause-same : goal.returns-then-place-le-HALF-clause-same
returns-then-place-le-HALF-clause-same g c x =
    let bs = map (λ v. v.items) c.args.blocks.now.items in
    let b = c.args.place.block in
    let inside = within (λ v. v.items) c.args.blocks.now.items c.args.place.block c.requires.inside in
    let long = long_enough (λ v. v.items) c.args.blocks.now.items c.args.place.block 128 c.index.result.now c.requires.inside c.index.ensures (search rules) in
    subst (λ ys. with_item ys b c.args.place.at x ≡ with_item bs b c.args.place.at x) (sym c.in_ok-cut_block.ensures.ok)
    (with_item_low 64 bs b c.args.place.at x inside (omega (arith, long)) c.if-place-le-HALF.true)

pub returns-then-place-le-HALF-clause-items : goal.returns-then-place-le-HALF-clause-items
returns-then-place-le-HALF-clause-items g c =
    let inside = within (λ v. v.items) c.args.blocks.now.items c.args.place.block c.requires.inside in
    ap joined c.in_ok-cut_block.ensures.ok ∙ joined_cut 64 (map (λ v. v.items) c.args.blocks.now.items) c.args.place.block inside

pub returns-then-place-le-HALF-clause-filled : goal.returns-then-place-le-HALF-clause-filled
returns-then-place-le-HALF-clause-filled g c =
    let inside = within (λ v. v.items) c.args.blocks.now.items c.args.place.block c.requires.inside in
    let long = long_enough (λ v. v.items) c.args.blocks.now.items c.args.place.block 128 c.index.result.now c.requires.inside c.index.ensures (search rules) in
    subst IsFilled (sym c.in_ok-cut_block.ensures.ok) (filled_cut 64 (map (λ v. v.items) c.args.blocks.now.items) c.args.place.block inside (omega arith) (omega (arith, long)) c.requires.filled)

pub returns-clause-block : goal.returns-clause-block
returns-clause-block g c =
    let bs = map (λ v. v.items) c.args.blocks.now.items in
    let inside = within (λ v. v.items) c.args.blocks.now.items c.args.place.block c.requires.inside in
    omega (arith, c.requires.inside, ap length c.in_ok-cut_block.ensures.ok, length-cut 64 bs c.args.place.block inside, length-map c.args.blocks.now.items (λ v. v.items), length-map c.cut_block.new.blocks.items (λ v. v.items))

pub returns-clause-at : goal.returns-clause-at
returns-clause-at g c =
    let bs = map (λ v. v.items) c.args.blocks.now.items in
    let b = c.args.place.block in
    let next : suc c.args.place.block ≡ c.args.place.block + 1 = omega arith in
    let inside = within (λ v. v.items) c.args.blocks.now.items c.args.place.block c.requires.inside in
    subst (λ m. c.args.place.at - 64 ≤ length (get_or (map (λ v. v.items) c.cut_block.new.blocks.items) m [])) next
    (subst (λ ys. c.args.place.at - 64 ≤ length (get_or ys (suc b) [])) (sym c.in_ok-cut_block.ensures.ok)
    (omega (arith, c.requires.at, ap length (upper_half 64 bs b inside), length-drop 64 (get_or bs b []))))

pub returns-clause-same : goal.returns-clause-same
returns-clause-same g c x =
    let bs = map (λ v. v.items) c.args.blocks.now.items in
    let b = c.args.place.block in
    let at = c.args.place.at in
    let next : suc c.args.place.block ≡ c.args.place.block + 1 = omega arith in
    let inside = within (λ v. v.items) c.args.blocks.now.items c.args.place.block c.requires.inside in
    let long = long_enough (λ v. v.items) c.args.blocks.now.items c.args.place.block 128 c.index.result.now c.requires.inside c.index.ensures (search rules) in
    subst (λ m. with_item (map (λ v. v.items) c.cut_block.new.blocks.items) m (at - 64) x ≡ with_item bs b at x) next
    (subst (λ ys. with_item ys (suc b) (at - 64) x ≡ with_item bs b at x) (sym c.in_ok-cut_block.ensures.ok)
    (with_item_high 64 bs b at x inside (omega (arith, long)) (omega (arith, c.if-place-le-HALF.false))))

pub returns-clause-items : goal.returns-clause-items
returns-clause-items g c =
    let inside = within (λ v. v.items) c.args.blocks.now.items c.args.place.block c.requires.inside in
    ap joined c.in_ok-cut_block.ensures.ok ∙ joined_cut 64 (map (λ v. v.items) c.args.blocks.now.items) c.args.place.block inside

pub returns-clause-filled : goal.returns-clause-filled
returns-clause-filled g c =
    let inside = within (λ v. v.items) c.args.blocks.now.items c.args.place.block c.requires.inside in
    let long = long_enough (λ v. v.items) c.args.blocks.now.items c.args.place.block 128 c.index.result.now c.requires.inside c.index.ensures (search rules) in
    subst IsFilled (sym c.in_ok-cut_block.ensures.ok) (filled_cut 64 (map (λ v. v.items) c.args.blocks.now.items) c.args.place.block inside (omega arith) (omega (arith, long)) c.requires.filled)

pub returns-then-place-le-HALF-clause-before : goal.returns-then-place-le-HALF-clause-before
returns-then-place-le-HALF-clause-before g c k low =
    let inside = within (λ v. v.items) c.args.blocks.now.items c.args.place.block c.requires.inside in
    ap (before k) c.in_ok-cut_block.ensures.ok ∙ before_cut 64 (map (λ v. v.items) c.args.blocks.now.items) c.args.place.block k inside low

pub returns-clause-before : goal.returns-clause-before
returns-clause-before g c k low =
    let inside = within (λ v. v.items) c.args.blocks.now.items c.args.place.block c.requires.inside in
    ap (before k) c.in_ok-cut_block.ensures.ok ∙ before_cut 64 (map (λ v. v.items) c.args.blocks.now.items) c.args.place.block k inside low

pub returns-then-place-le-HALF-clause-inside : goal.returns-then-place-le-HALF-clause-inside
returns-then-place-le-HALF-clause-inside g c =
    let bs = map (λ v. v.items) c.args.blocks.now.items in
    let inside = within (λ v. v.items) c.args.blocks.now.items c.args.place.block c.requires.inside in
    omega (arith, c.requires.inside, ap length c.in_ok-cut_block.ensures.ok, length-cut 64 bs c.args.place.block inside, length-map c.args.blocks.now.items (λ v. v.items), length-map c.cut_block.new.blocks.items (λ v. v.items))

pub returns-clause-inside : goal.returns-clause-inside
returns-clause-inside g c =
    let bs = map (λ v. v.items) c.args.blocks.now.items in
    let inside = within (λ v. v.items) c.args.blocks.now.items c.args.place.block c.requires.inside in
    omega (arith, c.requires.inside, ap length c.in_ok-cut_block.ensures.ok, length-cut 64 bs c.args.place.block inside, length-map c.args.blocks.now.items (λ v. v.items), length-map c.cut_block.new.blocks.items (λ v. v.items))
