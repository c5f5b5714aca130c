use Rattle.std.proofs.Common.{◌≡◌, ◌<◌, ◌+◌, [], ◌∷◌, ap, arith, get_or, length, map, rules, subst, sym, ◌∙◌}
use Rattle.std.proofs.Common.{length-append}
use Rattle.std.proofs.lemmas.List.{get_or_read, length-map}
use Rattle.cost_points.specs.Indexes.{AreStarts}
use Rattle.cost_points.proofs.InBlocks.{read_block}
use Rattle.cost_points.proofs.Indexed.{before_le, before_next, starts_more}
use Rattle.cost_points.proofs.indexes.extend.Goals as goal

pub overflow_add-start : goal.overflow_add-start
overflow_add-start g c =
    let bs = map (λ v. v.items) c.args.blocks.now in
    let b = c.loop-block.block in
    let inside : c.loop-block.block < length c.args.blocks.now = search rules in
    let start : c.index.result.now ≡ get_or c.loop-block.starts.items c.loop-block.block 0 =
    get_or_read c.loop-block.starts.items b c.index.result.now (omega (arith, c.loop-block.invariant.1)) c.index.ensures 0 in
    let own : c.len.result ≡ length c.index-blocks-block.result.items = search rules in
    let long : c.len.result ≡ length (get_or (map (λ v. v.items) c.args.blocks.now) c.loop-block.block []) =
    own ∙ ap length (read_block (λ v. v.items) c.args.blocks.now b c.index-blocks-block.result inside c.index-blocks-block.is) in
    omega (
      arith,
      start,
      long,
      c.loop-block.invariant.0.each b (omega (arith, c.loop-block.invariant.1)),
      before_next bs b (omega (arith, inside, length-map c.args.blocks.now (λ v. v.items))),
      before_le bs (b + 1),
      c.requires.count,
      c.ranges.count.fits,
    )

pub loop-block-preserved : goal.loop-block-preserved
loop-block-preserved g c =
    let bs = map (λ v. v.items) c.args.blocks.now in
    let b = c.loop-block.block in
    let inside : c.loop-block.block < length c.args.blocks.now = search rules in
    let more : c.loop-block.block + 1 < length c.args.blocks.now = search rules in
    let start : c.index.result.now ≡ get_or c.loop-block.starts.items c.loop-block.block 0 =
    get_or_read c.loop-block.starts.items b c.index.result.now (omega (arith, c.loop-block.invariant.1)) c.index.ensures 0 in
    let own : c.len.result ≡ length c.index-blocks-block.result.items = search rules in
    let long : c.len.result ≡ length (get_or (map (λ v. v.items) c.args.blocks.now) c.loop-block.block []) =
    own ∙ ap length (read_block (λ v. v.items) c.args.blocks.now b c.index-blocks-block.result inside c.index-blocks-block.is) in (
      subst (AreStarts bs) (sym c.in_ok-push.ensures.items)
          (starts_more bs c.loop-block.starts.items b (c.index.result.now + c.len.result) c.loop-block.invariant.0 c.loop-block.invariant.1
          (omega (arith, more, length-map c.args.blocks.now (λ v. v.items))) (omega (arith, start, long))),
      omega (arith, ap length c.in_ok-push.ensures.items, length-append c.loop-block.starts.items ((c.index.result.now + c.len.result) ∷ []), c.loop-block.invariant.1),
    )
