use Rattle.std.proofs.Common.{List, map, subst, sym, ◌∙◌}
use Rattle.std.specs.List.{All}
use Rattle.cost_points.specs.declared.point.Point.{Point}
use Rattle.cost_points.specs.Keys.{IsRising}
use Rattle.cost_points.specs.Search.{HasRoom}
use Rattle.context_tree.proofs.points.ContextPoints.list.Goals as goal

pub insert_point-requires-clause-rising : goal.insert_point-requires-clause-rising
insert_point-requires-clause-rising c =
    subst (λ (ps : List Point). IsRising (map (λ p. p.size) ps)) (sym (c.reserve.ensures.items ∙ c.in_ok-points.ensures)) (c.self.invariant c.in-Some.point c.in-Some.is).points.rising

pub insert_point-requires-clause-room : goal.insert_point-requires-clause-room
insert_point-requires-clause-room c =
    subst (All HasRoom) (sym (c.reserve.ensures.items ∙ c.in_ok-points.ensures)) (c.self.invariant c.in-Some.point c.in-Some.is).points.room

pub insert_point-requires-clause-fits : goal.insert_point-requires-clause-fits
insert_point-requires-clause-fits c = (c.self.invariant c.in-Some.point c.in-Some.is).fits
