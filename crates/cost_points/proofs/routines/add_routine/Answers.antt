use Rattle.std.proofs.Common.{ap, ◌∙◌}
use Rattle.cost_points.specs.Joined.{joined}
use Rattle.cost_points.specs.Keys.{put}
use Rattle.cost_points.specs.Merging.{point_added}
use Rattle.cost_points.specs.Points.{Routine}
use Rattle.cost_points.proofs.routines.add_routine.Goals as goal

pub returns-clause-ok : goal.returns-clause-ok
returns-clause-ok c =
    c.in_ok-insert.ensures.ok (point_added c.args.point)
    ∙ ap (λ (r : Routine). put (λ q. q.entry) r.entry (point_added c.args.point) r (joined c.args.routines.now)) c.in_ok-routine.ensures
