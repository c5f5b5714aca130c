use Rattle.std.proofs.Common.{◌∙◌, ap}
use Rattle.call_tracker.specs.CallStacks.{Stacks}
use Rattle.call_tracker.proofs.KeptCalls.{lives_kept}
use Rattle.call_tracker.proofs.call_stacks.CallStacks.lives.Goals as goal

pub returns-clause-value : goal.returns-clause-value
returns-clause-value c =
    c.is_some.ensures ∙ lives_kept c.self.inside.threads.list c.args.self.now (ap (λ (s : Stacks). s.threads) c.self.view_is) c.args.tid c.get.result c.get.ensures

pub returns-clause-stands : goal.returns-clause-stands
returns-clause-stands c = λ past stands.
    c.is_some.ensures ∙ lives_kept c.self.inside.threads.list c.args.self.now (ap (λ (s : Stacks). s.threads) c.self.view_is) c.args.tid c.get.result c.get.ensures
    ∙ stands.threads_live c.args.tid
