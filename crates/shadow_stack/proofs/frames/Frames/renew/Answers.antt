use Rattle.std.proofs.Common.{◌≡◌, length, map, reverse, ap, subst, sym, ◌∙◌}
use Rattle.std.proofs.lemmas.List.{length-map}
use Rattle.call_tracker.specs.ThreadCalls.{CountedCall}
use Rattle.call_tracker.specs.Missed.{AreMissed}
use Rattle.shadow_stack.specs.declared.frames.Entry.{Entry as Kept}
use Rattle.shadow_stack.specs.Frames.{Frame, Stack, IsRising, restarted, starts_of}
use Rattle.shadow_stack.proofs.Places.{same_through, seen, restarted_starts, starts_seen}
use Rattle.shadow_stack.proofs.frames.Frames.renew.Goals as goal

pub invariant_of-self : goal.invariant_of-self
invariant_of-self g c =
    let look : Kept g.row.S.Denot → Frame = seen (λ x. g.S.Stamp.number_of x.start) (λ x. x.sums) in
    let here = c.self.inside.entries.items in
    let starts = map g.S.Stamp.number_of c.args.starts.now in
    let list_is = ap (λ (s : Stack). s.list) c.self.view_is in
    let long : length starts ≡ length (map look here) =
    length-map c.args.starts.now g.S.Stamp.number_of ∙ c.requires.each ∙ ap length (sym list_is)
    in (
      subst IsRising
          (sym (starts_seen (λ x. g.S.Stamp.number_of x.start) (λ x. x.sums) c.restart.new.entries.items ∙ ap starts_of c.restart.ensures.list ∙ restarted_starts starts (map look here) long))
          c.requires.rising,
      subst (λ bs. AreMissed bs c.self.inside.missed) (sym (same_through (λ x. x.call) (λ (k : CountedCall). k.back) c.restart.new.entries.items here c.restart.ensures.calls)) c.self.invariant.1,
    )

pub returns-clause-list : goal.returns-clause-list
returns-clause-list g c =
    let starts = map g.S.Stamp.number_of c.args.starts.now in
    c.restart.ensures.list ∙ ap (λ (s : Stack). restarted starts s.list) c.self.view_is

pub returns-clause-calls : goal.returns-clause-calls
returns-clause-calls g c = ap reverse c.restart.ensures.calls ∙ ap (λ (s : Stack). s.calls) c.self.view_is
