use Rattle.std.proofs.Common.{◌∙◌, ap, ap₂, sym, ◌++◌, ◌∷◌, []}
use Rattle.aprof_top.proofs.Reports.{misses-more}
use Rattle.aprof_top.proofs.cache_job.named_misses.Goals as goal

pub loop-i-preserved : goal.loop-i-preserved
loop-i-preserved g c =
    c.in_ok-push.ensures.items
    ∙ ap₂ (λ front item. front ++ item ∷ []) c.loop-i.invariant (ap (λ name. record { counts = c.routine-counts.result; name = name }) c.in_ok-name.ensures.name)
    ∙ sym (misses-more c.args.image.now c.args.profile.now.routines c.loop-i.i _ c.routine-counts.ensures)
