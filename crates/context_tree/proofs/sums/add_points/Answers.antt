use Rattle.std.proofs.Common.{◌≡◌, get_or, arith, None}
use Rattle.std.proofs.lemmas.List.{get_or_default}
use Rattle.std.proofs.lemmas.List.Sums.{sum_by_more}
use Rattle.cost_points.specs.declared.point.Point.{Point}
use Rattle.context_tree.proofs.Summing.{point_step, points_all}
use Rattle.context_tree.proofs.sums.add_points.Goals as goal

abbrev no_point : Point
no_point = record { size = 0; calls = 0; least = 0; most = 0; sum = 0; split = None }

pub loop-point-preserved : goal.loop-point-preserved
loop-point-preserved c =
    let p = get_or c.args.points.now c.loop-point.point-index no_point in
    let read : get_or c.args.points.now c.loop-point.point-index no_point ≡ get_or c.args.points.now c.loop-point.point-index (get_or c.args.points.now c.loop-point.point-index no_point) =
    get_or_default c.args.points.now c.loop-point.point-index no_point (get_or c.args.points.now c.loop-point.point-index no_point) c.loop-point-test.true
    in
    record {
      members = omega (arith, c.in_ok-add_point.ensures.members, c.loop-point.invariant.members, sum_by_more (λ (p : Point). p.calls) c.args.points.now c.loop-point.point-index no_point c.loop-point-test.true);
      added = λ added more is entries are.
          point_step c.args.entry more entries c.args.points.now are c.loop-point.point-index c.loop-point-test.true p read added c.loop-point.table c.add_point.new.self
          (c.loop-point.invariant.added added more is entries are) c.in_ok-add_point.ensures.added;
    }

pub returns : goal.returns
returns c = λ added more is entries are.
    points_all more c.args.points.now c.loop-point.point-index added c.loop-point.table are (c.loop-point-test.false) (c.loop-point.invariant.added added more is entries are)
