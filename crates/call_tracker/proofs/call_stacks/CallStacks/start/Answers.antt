use Rattle.std.proofs.Common.{◌≡◌, ◌∙◌, ◌<◌, ap, sym}
use Rattle.std.proofs.lemmas.List.Elements.{All-same}
use Rattle.guest_words.specs.ByThread.{numbers}
use Rattle.guest_words.proofs.ThreadTables.{numbers-seen}
use Rattle.call_tracker.specs.CallStacks.{Stacks}
use Rattle.call_tracker.proofs.KeptCalls.{inward, seen}
use Rattle.call_tracker.proofs.call_stacks.CallStacks.start.Goals as goal

pub insert-requires : goal.insert-requires
insert-requires c =
    let xs = c.self.inside.threads.list in
    let is : seen xs ≡ c.args.self.now.threads = ap (λ (s : Stacks). s.threads) c.self.view_is in
    record {
      above = All-same (λ n. n < c.args.tid) (numbers xs) (numbers c.args.self.now.threads) (sym (numbers-seen inward xs) ∙ ap numbers is) c.requires.above;
    }
