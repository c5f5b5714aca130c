use Rattle.std.proofs.Common.{◌≡◌, Bool, true, false, List, map, refl, sym, subst, ap, ◌∙◌}
use Rattle.std.proofs.lemmas.List.{map-append}
use Rattle.call_tracker.specs.Missed.{AreMissed}
use Rattle.call_tracker.proofs.Searched.{missed-pushed}
use Rattle.room_stack.specs.Stacked.{Stacked}
use Rattle.shadow_stack.specs.declared.frames.Entry.{Entry as Kept}
use Rattle.shadow_stack.specs.Frames.{IsRising, Stack, starts_of}
use Rattle.shadow_stack.proofs.Places.{starts_seen}
use Rattle.shadow_stack.proofs.Rising.{rising_push}
use Rattle.shadow_stack.proofs.frames.Frames.push_over.Goals as goal

-- what holds of the list with one more and without holds of the one that is there
either : {X : Type 0} (P : List X → Type 0) (b : Bool) (now old more : List X) → (b ≡ true → now ≡ more) → (b ≡ false → now ≡ old) → P more → P old → P now
either P true now old more pushed same one none = subst P (sym (pushed refl)) one
either P false now old more pushed same one none = subst P (sym (same refl)) none

pub invariant_of-self : goal.invariant_of-self
invariant_of-self g c =
    let K = Kept g.row.S.Denot in
    let start : K → _ = λ x. g.S.Stamp.number_of x.start in
    let items : List K = c.self.inside.entries.items in
    let starts_are = starts_seen start (λ x. x.sums) items ∙ ap (λ (s : Stack). starts_of s.list) c.self.view_is in
    either (λ xs. IsRising (map start xs) × AreMissed (map (λ x. x.call.back) xs) c.self.inside.missed) c.push_over.result c.push_over.new.self.items items _
    c.push_over.ensures.pushed
    (λ none. ap (λ (s : Stacked K). s.items) (c.push_over.ensures.same none)) (
      rw map-append (rising_push _ _ c.self.invariant.0 (rw starts_are (λ i lt. c.requires i 0 lt))),
      rw map-append (missed-pushed _ c.args.call.back c.self.inside.missed c.self.invariant.1),
    )
    c.self.invariant
