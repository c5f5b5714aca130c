use Rattle.std.proofs.Common.{◌≡◌, ◌∙◌, ap, sym, Some}
use Rattle.std.specs.Option.{option_copied_mut}
use Rattle.std.proofs.lemmas.Result.{err_from_is_err_and}
use Rattle.guest_words.specs.ByThread.{value_of, with_value}
use Rattle.call_tracker.specs.CallStacks.{Stacks}
use Rattle.call_tracker.proofs.KeptCalls.{called, kept, refused, seen}
use Rattle.call_tracker.proofs.call_stacks.CallStacks.call.Goals as goal

pub unwrap-calls-requires : goal.unwrap-calls-requires
unwrap-calls-requires c =
    kept c.self.inside.threads.list c.args.self.now (ap (λ (s : Stacks). s.threads) c.self.view_is) c.args.tid c.get_mut.result c.get_mut.ensures.found c.requires.lives

pub returns-in_err-push-clause-refused : goal.returns-in_err-push-clause-refused
returns-in_err-push-clause-refused c =
    let here : value_of c.self.inside.threads.list c.args.tid ≡ Some c.unwrap-calls.result.now = sym c.get_mut.ensures.found ∙ ap option_copied_mut c.unwrap-calls.ensures in
    let threads : seen (with_value c.self.inside.threads.list c.args.tid c.push.new.self) ≡ c.args.self.now.threads =
    refused c.self.inside.threads.list c.args.self.now (ap (λ (s : Stacks). s.threads) c.self.view_is) c.args.tid c.unwrap-calls.result.now c.push.new.self here c.in_err-push.ensures.err
    in
    let p = err_from_is_err_and c.from_residual.result c.from_residual.ensures.1 in
    rw p.1 (ap (λ ys. record { threads = ys; pending = c.self.inside.pending }) threads ∙ ap (λ n. record { threads = c.args.self.now.threads; pending = n }) (ap (λ (s : Stacks). s.pending) c.self.view_is))

pub returns-clause-threads : goal.returns-clause-threads
returns-clause-threads c =
    let here : value_of c.self.inside.threads.list c.args.tid ≡ Some c.unwrap-calls.result.now = sym c.get_mut.ensures.found ∙ ap option_copied_mut c.unwrap-calls.ensures in
    called c.self.inside.threads.list c.args.self.now (ap (λ (s : Stacks). s.threads) c.self.view_is) c.args.tid c.unwrap-calls.result.now c.push.new.self _ here c.in_ok-push.ensures.ok
