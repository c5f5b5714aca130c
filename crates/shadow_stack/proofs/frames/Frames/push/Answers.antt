use Rattle.std.proofs.Common.{ap, ◌∙◌}
use Rattle.std.proofs.lemmas.List.{map-append}
use Rattle.call_tracker.proofs.Searched.{missed-pushed}
use Rattle.shadow_stack.specs.Frames.{Stack, starts_of}
use Rattle.shadow_stack.proofs.Places.{starts_seen}
use Rattle.shadow_stack.proofs.Rising.{rising_push}
use Rattle.shadow_stack.proofs.frames.Frames.push.Goals as goal

pub invariant_of-self-2 : goal.invariant_of-self-2
invariant_of-self-2 g c =
    let items = c.self.inside.entries.items in
    let starts_are = starts_seen (λ x. g.S.Stamp.number_of x.start) (λ x. x.sums) items ∙ ap (λ (s : Stack). starts_of s.list) c.self.view_is in (
      rw (c.in_ok-push.ensures.ok, map-append) (rising_push _ _ c.self.invariant.0 (rw starts_are (λ i lt. c.requires i 0 lt))),
      rw (c.in_ok-push.ensures.ok, map-append) (missed-pushed _ c.args.call.back c.self.inside.missed c.self.invariant.1),
    )
