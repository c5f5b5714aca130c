use Rattle.std.proofs.Common.{◌++◌, ap₂, rules, sym, ◌∙◌}
use Rattle.cost_points.proofs.InBlocks.{joined_more}
use Rattle.cost_points.proofs.blocks.items.Goals as goal

pub loop-i-preserved : goal.loop-i-preserved
loop-i-preserved c =
    c.in_ok-extend.ensures
    ∙ ap₂ (λ xs ys. xs ++ ys) c.loop-i.invariant c.deref.ensures.value
    ∙ sym (joined_more (λ v. v.items) c.args.blocks.now c.loop-i.i c.index-blocks-i.result (search rules) c.index-blocks-i.is)
