use Rattle.std.proofs.Common.{◌≡◌, ◌<◌, get_or, length, refl, reverse, ap, subst, sym, ◌∙◌, arith}
use Rattle.std.proofs.lemmas.List.{length-map}
use Rattle.std.proofs.lemmas.Option.{get_or_from_slice_get}
use Rattle.call_tracker.specs.Missed.{AreMissed}
use Rattle.shadow_stack.specs.declared.frames.Entry.{Entry as Kept}
use Rattle.shadow_stack.specs.Frames.{Stack, IsRising, added, plus}
use Rattle.shadow_stack.proofs.Places.{seen, changed-set, same-set}
use Rattle.shadow_stack.proofs.frames.Frames.add.Goals as goal

pub invariant_of-self : goal.invariant_of-self
invariant_of-self g c =
    let items = c.self.inside.entries.items in
    let within : c.args.i < length items = omega (arith, c.requires.within, length-map items (seen (λ x. g.S.Stamp.number_of x.start) (λ x. x.sums)), ap (λ (s : Stack). length s.list) c.self.view_is) in
    let old : Kept g.row.S.Denot = c.at_mut-entry.result.now in
    let new : Kept g.row.S.Denot = record old { sums = c.plus-entry.result } in
    let was : old ≡ get_or items c.args.i old = sym (get_or_from_slice_get items c.args.i old old c.at_mut-entry.ensures.value) in (
      subst IsRising (sym (same-set (λ x. g.S.Stamp.number_of x.start) items c.args.i old new within was refl)) c.self.invariant.0,
      subst (λ bs. AreMissed bs c.self.inside.missed) (sym (same-set (λ x. x.call.back) items c.args.i old new within was refl)) c.self.invariant.1,
    )

pub returns-clause-list : goal.returns-clause-list
returns-clause-list g c =
    let items = c.self.inside.entries.items in
    let within : c.args.i < length items = omega (arith, c.requires.within, length-map items (seen (λ x. g.S.Stamp.number_of x.start) (λ x. x.sums)), ap (λ (s : Stack). length s.list) c.self.view_is) in
    let old : Kept g.row.S.Denot = c.at_mut-entry.result.now in
    let new : Kept g.row.S.Denot = record old { sums = c.plus-entry.result } in
    let was : old ≡ get_or items c.args.i old = sym (get_or_from_slice_get items c.args.i old old c.at_mut-entry.ensures.value) in
    changed-set (λ x. g.S.Stamp.number_of x.start) (λ x. x.sums) items c.args.i old new (λ f. record f { sums = plus f.sums c.args.by }) within was
    (λ i. record { start = g.S.Stamp.number_of old.start; sums = c.plus-entry.ensures i })
    ∙ ap (λ (s : Stack). added c.args.i c.args.by s.list) c.self.view_is

pub returns-clause-calls : goal.returns-clause-calls
returns-clause-calls g c =
    let items = c.self.inside.entries.items in
    let within : c.args.i < length items = omega (arith, c.requires.within, length-map items (seen (λ x. g.S.Stamp.number_of x.start) (λ x. x.sums)), ap (λ (s : Stack). length s.list) c.self.view_is) in
    let old : Kept g.row.S.Denot = c.at_mut-entry.result.now in
    let new : Kept g.row.S.Denot = record old { sums = c.plus-entry.result } in
    let was : old ≡ get_or items c.args.i old = sym (get_or_from_slice_get items c.args.i old old c.at_mut-entry.ensures.value) in
    ap reverse (same-set (λ x. x.call) items c.args.i old new within was refl) ∙ ap (λ (s : Stack). s.calls) c.self.view_is
