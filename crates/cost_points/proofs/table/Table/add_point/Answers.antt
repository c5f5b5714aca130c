use Rattle.std.proofs.Common.{◌+◌, ◌<◌, ◌≤◌, ◌^◌, List, arith, length, refl, ap, sym, ◌∙◌, subst, rules}
use Rattle.std.specs.List.{All}
use Rattle.cost_points.specs.Contents.{IsCounted, TableContents}
use Rattle.cost_points.specs.Joined.{joined}
use Rattle.cost_points.specs.Merging.{with_point}
use Rattle.cost_points.specs.Points.{Routine}
use Rattle.cost_points.specs.Valid.{IsProfile}
use Rattle.cost_points.proofs.Merged.{IsProfile-with, contents-more, counted-with, few-with, rooms-of}
use Rattle.cost_points.proofs.table.Table.add_point.Goals as goal

pub invariant_of-self-2 : goal.invariant_of-self-2
invariant_of-self-2 c =
    let p = c.args.p.now in
    let m = c.self.inside.members in
    let ok = c.in_ok-add.ensures.ok in
    let small : c.args.p.now.size < 2 ^ 64 = search rules in
    let cheap : c.args.p.now.most < 2 ^ 64 = search rules in
    let routines = joined c.self.inside.routines in
    record {
      profile = subst IsProfile (sym ok) (IsProfile-with p c.requires.told c.requires.point c.args.entry routines c.self.invariant.profile);
      few = subst (λ (rs : List Routine). length rs ≤ c.self.inside.members + c.args.p.now.calls) (sym ok)
          (few-with p c.args.entry m (m + p.calls) routines c.requires.point.some refl c.self.invariant.few);
      counted = subst (All (λ (r : Routine). All (IsCounted (c.self.inside.members + c.args.p.now.calls)) r.points)) (sym ok)
          (counted-with p m (m + p.calls) refl small cheap c.args.entry routines c.self.invariant.counted);
    }

pub add-requires-clause-room : goal.add-requires-clause-room
add-requires-clause-room c =
    rooms-of c.self.inside.members (joined c.self.inside.routines)
    (subst (λ (t : TableContents). t.members < 2 ^ 63) (sym c.self.view_is) (omega (arith, c.requires.few))) c.self.invariant.profile c.self.invariant.counted

pub returns-clause-added : goal.returns-clause-added
returns-clause-added c = λ added more is are.
    contents-more c.args.entry c.args.p.now c.args.self.now _ added more are is
    (c.in_ok-add.ensures.ok ∙ ap (λ (t : TableContents). with_point c.args.entry c.args.p.now t.routines) c.self.view_is)
    (ap (λ (t : TableContents). t.members + c.args.p.now.calls) c.self.view_is)
