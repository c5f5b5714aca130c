use Rattle.std.proofs.Common.{ap, sym, ◌∙◌}
use Rattle.std.specs.Prelude.{Some, slice_get}
use Rattle.cost_points.specs.Contents.{TableContents}
use Rattle.cost_points.specs.Points.{Routine}
use Rattle.cost_points.proofs.Merged.{routine_same}
use Rattle.cost_points.proofs.table.Table.routine.Goals as goal

pub returns : goal.returns
returns c =
    let found = c.get-routine.result.now in
    ap (λ (t : TableContents). slice_get t.routines c.args.i) (sym c.self.view_is) ∙ c.get-routine.ensures
    ∙ ap Some (routine_same found.entry c.routine.inside.entry found.points c.in_ok-points.points.items (sym (ap (λ (r : Routine). r.entry) c.routine.view_is)) (sym c.in_ok-points.ensures))
