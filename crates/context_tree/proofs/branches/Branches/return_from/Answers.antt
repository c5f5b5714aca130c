use Rattle.std.proofs.Common.{◌≡◌, ◌∙◌, ◌++◌, All, length, map, true, refl, sym, ap, subst}
use Rattle.std.specs.Prelude.{is_some}
use Rattle.guest_words.specs.ByThread.{value_of}
use Rattle.context_tree.specs.Points.{points_of}
use Rattle.context_tree.specs.Branches.{KeptBranches, BranchesStandFor, current_of}
use Rattle.context_tree.specs.Private.Ways.{ArePoints, lists, tagged, up}
use Rattle.context_tree.proofs.Following.{stands-return}
use Rattle.context_tree.proofs.branches.Branches.return_from.Goals as goal

pub add_up-number-requires-clause-each : goal.add_up-number-requires-clause-each
add_up-number-requires-clause-each c =
    let each = subst (λ (k : KeptBranches). All ArePoints k.points) (sym c.self.view_is) c.requires.each in
    subst (All ArePoints) (sym c.reserve_up.ensures.points) each

pub returns-clause-stands : goal.returns-clause-stands
returns-clause-stands c = λ past target stands are.
    let s = subst (λ (k : KeptBranches). BranchesStandFor k past) (sym c.self.view_is) stands in
    let lives = subst (λ (k : KeptBranches). is_some (value_of k.threads c.args.tid) ≡ true) (sym c.self.view_is) c.requires.lives in
    let from : c.current-from.result ≡ current_of (record { places = c.self.inside.numbers; points = lists c.self.inside.points.items; links = c.self.inside.links.items; threads = c.self.inside.threads.list }) c.args.tid =
    c.current-from.ensures ∙ ap (λ (k : KeptBranches). current_of k c.args.tid) (sym c.self.view_is)
    in
    stands-return _ _ past c.args.tid target c.add_up-number.result c.args.ends.now lives refl
    (c.add_up-number.ensures.above ∙ ap (λ n. up c.self.inside.numbers n (length c.args.ends.now)) from) are s (record {
      places = refl;
      links = refl;
      points = λ known members stands_for are_points.
          c.add_up-number.ensures.points known members stands_for (c.reserve_up.ensures.points ∙ are_points)
          ∙ ap (λ n. map (points_of (members ++ tagged c.self.inside.numbers known n c.args.ends.now)) known) from;
    })
