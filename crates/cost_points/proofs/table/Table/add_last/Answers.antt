use Rattle.std.proofs.Common.{◌≡◌, ◌+◌, ◌<◌, ◌^◌, [], ◌∷◌, true, is_some, List, length, ◌≤◌, ap, refl, sym, ◌∙◌, subst, rules}
use Rattle.std.specs.List.{All}
use Rattle.cost_points.specs.Contents.{IsCounted, TableContents}
use Rattle.cost_points.specs.Joined.{joined}
use Rattle.cost_points.specs.Merging.{with_point}
use Rattle.cost_points.specs.Points.{Routine, point_of}
use Rattle.cost_points.specs.Valid.{IsPoint, IsProfile}
use Rattle.cost_points.proofs.Merged.{IsProfile-with, are_one, contents-more, counted-with, few-with, one_is_point, rooms-of}
use Rattle.cost_points.proofs.table.Table.add_last.Goals as goal

pub invariant_of-self : goal.invariant_of-self
invariant_of-self c =
    let p = point_of c.args.ended.now.size (c.args.ended.now ∷ []) in
    let m = c.self.inside.members in
    let ok = c.add_last.ensures.added c.if-add_last.true in
    let small : c.args.ended.now.size < 2 ^ 64 = search rules in
    let cheap : c.args.ended.now.cost < 2 ^ 64 = search rules in
    let told : is_some p.split ≡ true = refl in
    let of_p : IsPoint p = one_is_point c.args.ended.now c.requires.parts in
    let routines = joined c.self.inside.routines in
    record {
      profile = subst IsProfile (sym ok) (IsProfile-with p told of_p c.args.ended.now.entry routines c.self.invariant.profile);
      few = subst (λ (rs : List Routine). length rs ≤ c.self.inside.members + 1) (sym ok)
          (few-with p c.args.ended.now.entry m (m + 1) routines of_p.some refl c.self.invariant.few);
      counted = subst (All (λ (r : Routine). All (IsCounted (c.self.inside.members + 1)) r.points)) (sym ok)
          (counted-with p m (m + 1) refl small cheap c.args.ended.now.entry routines c.self.invariant.counted);
    }

pub add_last-requires-clause-room : goal.add_last-requires-clause-room
add_last-requires-clause-room c =
    rooms-of c.self.inside.members (joined c.self.inside.routines)
    (subst (λ (t : TableContents). t.members < 2 ^ 63) (sym c.self.view_is) c.requires.few) c.self.invariant.profile c.self.invariant.counted

pub returns-then-add_last-clause-added : goal.returns-then-add_last-clause-added
returns-then-add_last-clause-added c = λ added is yes.
    let p = point_of c.args.ended.now.size (c.args.ended.now ∷ []) in
    contents-more c.args.ended.now.entry p c.args.self.now _ added (c.args.ended.now ∷ []) (are_one c.args.ended.now p refl) is
    (c.add_last.ensures.added c.if-add_last.true ∙ ap (λ (t : TableContents). with_point c.args.ended.now.entry p t.routines) c.self.view_is)
    (ap (λ (t : TableContents). t.members + 1) c.self.view_is)

pub returns-then-add_last-clause-routines : goal.returns-then-add_last-clause-routines
returns-then-add_last-clause-routines c = λ yes.
    c.add_last.ensures.added c.if-add_last.true ∙ ap (λ (t : TableContents). with_point c.args.ended.now.entry (point_of c.args.ended.now.size (c.args.ended.now ∷ [])) t.routines) c.self.view_is
