use Rattle.std.proofs.Common.{◌∙◌, ap, sym, length}
use Rattle.std.proofs.lemmas.List.{length-reverse}
use Rattle.call_tracker.specs.CallStacks.{Stacks}
use Rattle.call_tracker.proofs.KeptCalls.{calls_kept, no_calls_kept}
use Rattle.call_tracker.proofs.call_stacks.CallStacks.depth.Goals as goal

pub returns-in-Some : goal.returns-in-Some
returns-in-Some c =
    c.depth.ensures ∙ sym (length-reverse c.in-Some.calls.now.calls)
    ∙ ap length (sym (calls_kept c.self.inside.threads.list c.args.self.now (ap (λ (s : Stacks). s.threads) c.self.view_is) c.args.tid c.in-Some.calls.now (sym c.in-Some.ensures)))

pub returns-in-None : goal.returns-in-None
returns-in-None c =
    ap length (sym (no_calls_kept c.self.inside.threads.list c.args.self.now (ap (λ (s : Stacks). s.threads) c.self.view_is) c.args.tid (sym c.in-None.ensures)))
