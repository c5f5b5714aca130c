use Rattle.std.proofs.Common.{◌≡◌, List, ap, map, set, ◌∙◌, subst, refl, cond, Result, Ok, Err, IsOk}
use Rattle.std.specs.Prelude.{is_ok}
use Rattle.cost_points.specs.declared.point.Point.{Point}
use Rattle.cost_points.specs.Merging.{merged}
use Rattle.cost_points.specs.Search.{IsAt, IsInsertionPoint}
use Rattle.cost_points.proofs.Put.{put_at, put_in}
use Rattle.cost_points.proofs.sorted.insert_point.Goals as goal

taken : {T E : Type 0} {X : Type 0} (r : Result T E) (a b : X) → IsOk r → cond (is_ok r) a b ≡ a
taken (Ok v) a b ok = refl
taken (Err e) a b ok = absurd (cc)

pub returns-in-Ok : goal.returns-in-Ok
returns-in-Ok c =
    let p = c.args.point in
    let items = c.args.points.now.items in
    let place = subst (λ (ps : List Point). IsAt (map (λ q. q.size) ps) c.args.point.size c.in-Ok.at) c.deref.ensures.value c.in-Ok.ensures in
    ap (set c.args.points.now.items c.in-Ok.at) c.merged.ensures
    ∙ put_at (λ (q : Point). q.size) p.size (λ q. merged q c.args.point) p items c.in-Ok.at c.index.result.now c.requires.rising place c.index.ensures

pub returns-in-Err : goal.returns-in-Err
returns-in-Err c =
    let p = c.args.point in
    let items = c.args.points.now.items in
    let place = subst (λ (ps : List Point). IsInsertionPoint (map (λ q. q.size) ps) c.args.point.size c.in-Err.at) c.deref.ensures.value c.in-Err.ensures in
    c.insert.ensures.items
    ∙ taken c.insert.result _ _ (c.insert.ensures.succeeds c.requires.spare)
    ∙ put_in (λ (q : Point). q.size) p.size (λ q. merged q c.args.point) p items c.in-Err.at place
