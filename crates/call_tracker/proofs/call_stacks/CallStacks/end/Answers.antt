use Rattle.std.proofs.Common.{◌∙◌, ap}
use Rattle.guest_words.specs.ByThread.{without_thread}
use Rattle.guest_words.proofs.ThreadTables.{without_thread-seen}
use Rattle.call_tracker.specs.CallStacks.{Stacks}
use Rattle.call_tracker.proofs.KeptCalls.{inward, seen}
use Rattle.call_tracker.proofs.call_stacks.CallStacks.end.Goals as goal

pub returns-clause-threads : goal.returns-clause-threads
returns-clause-threads c =
    ap seen c.remove.ensures.list ∙ without_thread-seen inward c.self.inside.threads.list c.args.tid
    ∙ ap (λ ys. without_thread ys c.args.tid) (ap (λ (s : Stacks). s.threads) c.self.view_is)
