use Rattle.std.proofs.Common.{◌≡◌, ◌∙◌, ◌++◌, All, map, refl, sym, ap, subst}
use Rattle.context_tree.specs.Points.{points_of}
use Rattle.context_tree.specs.Branches.{KeptBranches, BranchesStandFor, current_of}
use Rattle.context_tree.specs.Private.Ways.{ArePoints, lists, tagged}
use Rattle.context_tree.proofs.Following.{stands-end}
use Rattle.context_tree.proofs.branches.Branches.end.Goals as goal

pub add_up-requires-clause-each : goal.add_up-requires-clause-each
add_up-requires-clause-each c =
    let each = subst (λ (k : KeptBranches). All ArePoints k.points) (sym c.self.view_is) c.requires.each in
    subst (All ArePoints) (sym c.reserve_up.ensures.points) each

pub returns-clause-stands : goal.returns-clause-stands
returns-clause-stands c = λ past stands are.
    let s = subst (λ (k : KeptBranches). BranchesStandFor k past) (sym c.self.view_is) stands in
    let from : c.current-from.result ≡ current_of (record { places = c.self.inside.numbers; points = lists c.self.inside.points.items; links = c.self.inside.links.items; threads = c.self.inside.threads.list }) c.args.tid =
    c.current-from.ensures ∙ ap (λ (k : KeptBranches). current_of k c.args.tid) (sym c.self.view_is)
    in
    stands-end _ _ past c.args.tid c.args.ends.now c.remove.ensures.list are s (record {
      places = refl;
      links = refl;
      points = λ known members stands_for are_points.
          c.add_up.ensures.points known members stands_for (c.reserve_up.ensures.points ∙ are_points)
          ∙ ap (λ n. map (points_of (members ++ tagged c.self.inside.numbers known n c.args.ends.now)) known) from;
    })
