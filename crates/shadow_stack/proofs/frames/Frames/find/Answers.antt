use Rattle.std.proofs.Common.{◌∙◌, ap, map, subst, sym}
use Rattle.std.proofs.lemmas.List.{length-map}
use Rattle.shadow_stack.specs.Frames.{IsRising, Stack, starts_of}
use Rattle.shadow_stack.proofs.Places.{starts_seen}
use Rattle.shadow_stack.proofs.Rising.{counted_last}
use Rattle.shadow_stack.proofs.frames.Frames.find.Goals as goal

pub first_above-requires : goal.first_above-requires
first_above-requires g c = subst IsRising (sym (ap (map (λ x. g.S.Stamp.number_of x.start)) c.as_slice.ensures)) c.self.invariant.0

pub returns-clause-found : goal.returns-clause-found
returns-clause-found g c =
    let items = c.self.inside.entries.items in
    let starts_are = ap (map (λ x. g.S.Stamp.number_of x.start)) c.as_slice.ensures ∙ starts_seen (λ x. g.S.Stamp.number_of x.start) (λ x. x.sums) items ∙ ap (λ (s : Stack). starts_of s.list) c.self.view_is in
    let found = c.first_above.ensures in
    rw (← starts_are, ← c.number.ensures.value)
    (counted_last _ _ _ _ c.checked_sub.ensures (rw length-map found.within) found.below (λ i low lt. found.above i low (rw length-map at lt)))
