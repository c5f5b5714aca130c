use Rattle.std.proofs.Common.{◌≡◌, ◌<◌, ap, arith, get_or, length, map, rules, subst, sym, ◌∙◌}
use Rattle.std.proofs.lemmas.List.{length-map}
use Rattle.cost_points.proofs.InBlocks.{place_at, read_block}
use Rattle.cost_points.proofs.blocks.stands_at.Goals as goal

pub returns-then-key : goal.returns-then-key
returns-then-key g c = λ yes.
    let key = g.T.Keyed.key_of in
    let b = c.args.place.block in
    let at = c.args.place.at in
    let a = c.index.result.now in
    let own = read_block (λ v. v.items) c.args.blocks.now b c.index-blocks-place.result c.if-place-blocks.true c.index-blocks-place.is in
    place_at key (map (λ v. v.items) c.args.blocks.now) b at a c.args.key c.requires
    (omega (arith, c.if-place-blocks.true, length-map c.args.blocks.now (λ v. v.items)))
    (subst (λ ys. at < length ys) own (search rules))
    (subst (λ ys. key (get_or ys at a) ≡ c.args.key) own (sym (ap key c.index.ensures) ∙ sym c.key.ensures ∙ c.if-key.true))
