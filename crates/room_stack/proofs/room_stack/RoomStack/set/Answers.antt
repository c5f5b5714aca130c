use Rattle.std.proofs.Common.{◌∙◌, ◌<◌, length, ap, arith}
use Rattle.std.specs.Prelude.{slice_set}
use Rattle.std.proofs.Math.Seq.{take-set-lt}
use Rattle.std.proofs.lemmas.List.{length-take}
use Rattle.room_stack.specs.Stacked.{Stacked}
use Rattle.room_stack.proofs.room_stack.RoomStack.set.Goals as goal

pub returns-clause-items : goal.returns-clause-items
returns-clause-items g c =
    let d = c.self.inside.depth in
    let items = c.self.inside.items.items in
    let within : c.args.i < d = omega (arith, c.requires, ap (λ (s : Stacked _). length s.items) c.self.view_is, length-take d items) in
    take-set-lt d items c.args.i c.args.item within ∙ ap (λ (s : Stacked _). slice_set s.items c.args.i c.args.item) c.self.view_is
