use Rattle.std.proofs.Common.{◌≡◌, suc, ◌-◌, ◌∷◌, [], length, map, refl, ap, subst, sym, ◌∙◌, arith}
use Rattle.std.proofs.lemmas.List.{length-map, map-append}
use Rattle.call_tracker.specs.Missed.{AreMissed}
use Rattle.shadow_stack.specs.declared.frames.Entry.{Entry as Kept}
use Rattle.shadow_stack.specs.Frames.{Frame, Stack, FitsPop, IsRising}
use Rattle.shadow_stack.proofs.Places.{seen, left_seen, last_added, none_added, below_fits, rising_front}
use Rattle.shadow_stack.proofs.frames.Frames.pop.Goals as goal
use Rattle.shadow_stack.proofs.frames.Frames.pop.Goals.{then-depth-gt0, else-depth-gt0}

pub invariant_of-self-then-depth-gt0 : goal.invariant_of-self-then-depth-gt0
invariant_of-self-then-depth-gt0 g c =
    let start = g.S.Stamp.number_of c.in_ok-top.top.start in
    let left = c.pop.new.self.items in
    let starts_are = ap (map (λ x. g.S.Stamp.number_of x.start)) c.in_ok-top.ensures.items ∙ map-append (λ x. g.S.Stamp.number_of x.start) left (c.in_ok-top.top ∷ []) in (
      rising_front (map (λ x. g.S.Stamp.number_of x.start) left) start (subst IsRising starts_are c.self.invariant.0),
      subst (λ bs. AreMissed bs c.keep.new.self) (left_seen (λ x. x.call.back) c.self.inside.entries.items left c.in_ok-top.top c.len-depth.result c.in_ok-top.ensures.items c.len-depth.ensures)
          (c.keep.ensures (map (λ x. x.call.back) c.self.inside.entries.items) c.self.invariant.1),
    )

pub add-requires-clause-fits : goal.add-requires-clause-fits
add-requires-clause-fits g c =
    let look : Kept g.row.S.Denot → Frame = seen (λ x. g.S.Stamp.number_of x.start) (λ x. x.sums) in
    let outer = c.pop.new.self.items in
    let list_is = sym (ap (λ (s : Stack). s.list) c.self.view_is) ∙ ap (map look) c.in_ok-top.ensures.items ∙ map-append look outer (c.in_ok-top.top ∷ []) in
    let long : length (map look outer) ≡ suc (c.len-depth.result - 1) = omega (arith, length-map outer look, c.len-depth.ensures, c.if-depth-gt0.true) in
    below_fits (c.len-depth.result - 1) (map look outer) (look c.in_ok-top.top) long (subst FitsPop list_is c.requires)

pub returns-clause-popped : goal.returns-clause-popped
returns-clause-popped g c =
    let look : Kept g.row.S.Denot → Frame = seen (λ x. g.S.Stamp.number_of x.start) (λ x. x.sums) in
    let outer = c.pop.new.self.items in
    let top = c.in_ok-top.top in
    let list_is = sym (ap (λ (s : Stack). s.list) c.self.view_is) ∙ ap (map look) c.in_ok-top.ensures.items ∙ map-append look outer (top ∷ []) in
    elim c.if-depth-gt0.branch [
      | then-depth-gt0 w ↦
          let long : length (map look outer) ≡ suc (c.len-depth.result - 1) = omega (arith, length-map outer look, c.len-depth.ensures, w.if-depth-gt0.true) in
          (map look outer, look top, list_is, refl, ap (λ (s : Stack). s.list) w.self-is ∙ w.add.ensures.list ∙ last_added (c.len-depth.result - 1) top.sums (map look outer) long)
      | else-depth-gt0 w ↦
          (map look outer, look top, list_is, refl, ap (λ (s : Stack). s.list) w.self-is ∙ none_added top.sums (map look outer) (λ some. absurd (omega (arith, some, w.if-depth-gt0.false, length-map outer look, c.len-depth.ensures))))
    ]
