use Rattle.std.proofs.Common.{◌≡◌, ◌<◌, ap, arith, cond, length, map, refl, ◌∙◌, Result, Ok, Err, IsOk}
use Rattle.std.specs.Prelude.{is_ok}
use Rattle.cost_points.specs.Private.Blocks.{cut}
use Rattle.cost_points.proofs.InBlocks.{cut_made}
use Rattle.cost_points.proofs.blocks.cut_block.Goals as goal

taken : {T E : Type 0} {X : Type 0} (r : Result T E) (a b : X) → IsOk r → cond (is_ok r) a b ≡ a
taken (Ok v) a b ok = refl
taken (Err e) a b ok = absurd (cc)

pub returns-clause-ok : goal.returns-clause-ok
returns-clause-ok g c =
    let inside : c.args.b < length c.reserve.new.self.items = omega (arith, c.requires.inside, ap length c.reserve.ensures.items) in
    ap (map (λ v. v.items)) (c.insert.ensures.items ∙ taken c.insert.result _ _ (c.insert.ensures.succeeds (omega (arith, c.in_ok-reserve.ensures.ok))))
    ∙ cut_made (λ v. v.items) c.reserve.new.self.items c.args.b 64 c.index_mut-block.result.now c.split_off.new.self c.in_ok-upper.upper inside c.index_mut-block.ensures.value c.in_ok-upper.ensures.items c.in_ok-upper.ensures.tail
    ∙ ap (λ vs. cut 64 c.args.b (map (λ v. v.items) vs)) c.reserve.ensures.items
