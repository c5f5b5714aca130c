use Rattle.std.proofs.Common.{[], ◌∙◌, ap, arith, length, refl, subst, sym}
use Rattle.std.specs.List.{All}
use Rattle.std.proofs.lemmas.List.Elements.{All-nil}
use Rattle.trace_model.specs.Profile.{HasParts}
use Rattle.cost_points.specs.Contents.{IsCounted}
use Rattle.cost_points.specs.Points.{Routine}
use Rattle.cost_points.specs.Valid.{IsProfile}
use Rattle.cost_points.proofs.Bounds.{IsProfile-points}
use Rattle.cost_points.proofs.Tables.{points_none, contents_same}
use Rattle.cost_points.proofs.table.Table.new.Goals as goal

pub invariant_of-result : goal.invariant_of-result
invariant_of-result c = record {
  profile = subst IsProfile (sym (c.in_ok-new.ensures ∙ points_none)) (IsProfile-points [] (All-nil HasParts));
  few = omega (arith, ap length c.in_ok-new.ensures);
  counted = subst (All (λ (r : Routine). All (IsCounted 0) r.points)) (sym c.in_ok-new.ensures) (All-nil (λ (r : Routine). All (IsCounted 0) r.points));
}

pub returns : goal.returns
returns c = contents_same _ _ _ _ refl (c.in_ok-new.ensures ∙ points_none)
