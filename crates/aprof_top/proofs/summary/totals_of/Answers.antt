use Rattle.std.proofs.Common.{◌≡◌, ◌*◌, ◌^◌, ◌∙◌, ap}
use Rattle.cost_points.specs.declared.point.Point.{Point}
use Rattle.profile_report.specs.Reported.{ReportedRoutine}
use Rattle.aprof_top.proofs.Totals.{total_fits, total_more}
use Rattle.aprof_top.proofs.summary.totals_of.Goals as goal

pub with_points-totals-requires-clause-sizes : goal.with_points-totals-requires-clause-sizes
with_points-totals-requires-clause-sizes c =
    total_fits (λ (p : Point). p.size * p.calls) c.args.routines.now c.loop-routine.routine-index c.routine-item.result c.as_slice.result.now
    c.loop-routine-test.true c.routine-item.is (c.as_slice.ensures.value ∙ ap (λ (r : ReportedRoutine). r.points) c.routine.view_is)
    c.loop-routine.totals.sizes (2 ^ 128) c.loop-routine.invariant.1 c.requires.sizes

pub with_points-totals-requires-clause-costs : goal.with_points-totals-requires-clause-costs
with_points-totals-requires-clause-costs c =
    total_fits (λ (p : Point). p.sum) c.args.routines.now c.loop-routine.routine-index c.routine-item.result c.as_slice.result.now
    c.loop-routine-test.true c.routine-item.is (c.as_slice.ensures.value ∙ ap (λ (r : ReportedRoutine). r.points) c.routine.view_is)
    c.loop-routine.totals.costs (2 ^ 128) c.loop-routine.invariant.2 c.requires.costs

pub loop-routine-preserved : goal.loop-routine-preserved
loop-routine-preserved c =
    let are : c.as_slice.result.now ≡ c.routine-item.result.points =
    c.as_slice.ensures.value ∙ ap (λ (r : ReportedRoutine). r.points) c.routine.view_is in (
      total_more (λ (p : Point). p.calls) c.args.routines.now c.loop-routine.routine-index c.routine-item.result c.as_slice.result.now
          c.loop-routine-test.true c.routine-item.is are
          c.loop-routine.totals.activations c.with_points-totals.result.activations c.loop-routine.invariant.0 c.with_points-totals.ensures.activations,
      total_more (λ (p : Point). p.size * p.calls) c.args.routines.now c.loop-routine.routine-index c.routine-item.result c.as_slice.result.now
          c.loop-routine-test.true c.routine-item.is are
          c.loop-routine.totals.sizes c.with_points-totals.result.sizes c.loop-routine.invariant.1 c.with_points-totals.ensures.sizes,
      total_more (λ (p : Point). p.sum) c.args.routines.now c.loop-routine.routine-index c.routine-item.result c.as_slice.result.now
          c.loop-routine-test.true c.routine-item.is are
          c.loop-routine.totals.costs c.with_points-totals.result.costs c.loop-routine.invariant.2 c.with_points-totals.ensures.costs,
    )
