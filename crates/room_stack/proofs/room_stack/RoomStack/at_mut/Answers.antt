use Rattle.std.proofs.Common.{◌∙◌, ◌<◌, ◌-◌, length, ap, arith, refl, sym, take, List}
use Rattle.std.specs.Prelude.{slice_get}
use Rattle.std.specs.Vec.{vec_capacity}
use Rattle.std.proofs.Math.Seq.{take-set-lt}
use Rattle.std.proofs.lemmas.List.{get_or-take, length-take}
use Rattle.std.proofs.lemmas.Option.{slice_get_read}
use Rattle.room_stack.specs.Stacked.{Stacked}
use Rattle.room_stack.specs.LentItem.{with_item}
use Rattle.room_stack.proofs.room_stack.RoomStack.at_mut.Goals as goal

pub returns : goal.returns
returns g c =
    let d = c.self.inside.depth in
    let items = c.self.inside.items.items in
    let within : c.args.i < d = omega (arith, c.requires, ap (λ (s : Stacked _). length s.items) c.self.view_is, length-take d items) in (
      (refl, λ w. ap (λ (xs : List g.row.T.Denot). record { items = xs; spare = vec_capacity c.self.inside.items - d }) (take-set-lt d items c.args.i w within) ∙ ap (λ (s : Stacked g.row.T.Denot). with_item s c.args.i w) c.self.view_is),
      record {
        writes_back = tt;
        value =
            ap (λ (s : Stacked g.row.T.Denot). slice_get s.items c.args.i) (sym c.self.view_is)
            ∙ slice_get_read (take d items) d c.args.i c.index_mut.result.now (omega (arith, length-take d items, c.self.invariant)) within
            (c.index_mut.ensures.value ∙ sym (get_or-take d items c.args.i c.index_mut.result.now within));
      },
    )
