use Rattle.std.proofs.Common.{◌∙◌, ap, ap₂, sym, ◌++◌, ◌∷◌, []}
use Rattle.aprof_top.proofs.Reports.{named-more}
use Rattle.aprof_top.proofs.report.named_routines.Goals as goal

pub loop-i-preserved : goal.loop-i-preserved
loop-i-preserved g c =
    c.in_ok-push.ensures.items
    ∙ ap₂ (λ front item. front ++ item ∷ []) c.loop-i.invariant (ap (λ name. record { entry = c.in_ok-entry.entry; name = name; points = c.in_ok-entry.points.items }) c.in_ok-name.ensures)
    ∙ sym (named-more (g.N.RoutineNames.names c.args.names.now) c.args.table.now.routines c.loop-i.i _ c.in_ok-entry.ensures)
