use Rattle.std.proofs.Common.{ap, map, reverse, ◌∙◌}
use Rattle.std.specs.Prelude.{◌==◌, ℕ}
use Rattle.trace_model.specs.Activations.{count_returned}
use Rattle.call_tracker.specs.ThreadCalls.{CountedCall}
use Rattle.shadow_stack.specs.Frames.{Stack}
use Rattle.shadow_stack.proofs.Places.{seen_reversed}
use Rattle.shadow_stack.proofs.frames.Frames.ends_one.Goals as goal

pub returns : goal.returns
returns g c =
    c.top_returns_to.ensures.one
    ∙ ap (λ (n : ℕ). n == 1)
    (ap (λ xs. count_returned c.args.target (map (λ x. x.call.back) (reverse xs))) c.as_slice.ensures
    ∙ ap (count_returned c.args.target) (seen_reversed (λ x. x.call) (λ (k : CountedCall). k.back) c.self.inside.entries.items)
    ∙ ap (λ (s : Stack). count_returned c.args.target (map (λ (k : CountedCall). k.back) s.calls)) c.self.view_is)
