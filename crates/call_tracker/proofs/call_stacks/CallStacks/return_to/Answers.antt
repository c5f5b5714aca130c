use Rattle.std.proofs.Common.{◌≡◌, ◌∙◌, length, ap, sym, arith, Some}
use Rattle.std.specs.Option.{option_copied_mut}
use Rattle.std.proofs.lemmas.List.{length-reverse}
use Rattle.guest_words.specs.ByThread.{value_of}
use Rattle.trace_model.specs.Activations.{count_returned}
use Rattle.call_tracker.specs.Calls.{backs}
use Rattle.call_tracker.specs.CallStacks.{Stacks, calls_of}
use Rattle.call_tracker.proofs.KeptCalls.{calls_kept, inward, kept, returned}
use Rattle.call_tracker.proofs.call_stacks.CallStacks.return_to.Goals as goal

pub unwrap-calls-requires : goal.unwrap-calls-requires
unwrap-calls-requires c =
    kept c.self.inside.threads.list c.args.self.now (ap (λ (s : Stacks). s.threads) c.self.view_is) c.args.tid c.get_mut.result c.get_mut.ensures.found c.requires.lives

pub overflow_sub-self : goal.overflow_sub-self
overflow_sub-self c =
    let here : value_of c.self.inside.threads.list c.args.tid ≡ Some c.unwrap-calls.result.now = sym c.get_mut.ensures.found ∙ ap option_copied_mut c.unwrap-calls.ensures in
    let calls : calls_of c.args.self.now c.args.tid ≡ inward c.unwrap-calls.result.now =
    calls_kept c.self.inside.threads.list c.args.self.now (ap (λ (s : Stacks). s.threads) c.self.view_is) c.args.tid c.unwrap-calls.result.now here
    in
    omega (
      arith,
      ap length calls,
      length-reverse c.unwrap-calls.result.now.calls,
      c.pop_to-ended.ensures.within,
      c.requires.few,
      ap (λ (s : Stacks). s.pending) c.self.view_is,
    )

pub returns-clause-count : goal.returns-clause-count
returns-clause-count c =
    let here : value_of c.self.inside.threads.list c.args.tid ≡ Some c.unwrap-calls.result.now = sym c.get_mut.ensures.found ∙ ap option_copied_mut c.unwrap-calls.ensures in
    c.pop_to-ended.ensures.count
    ∙ ap (λ calls. count_returned c.args.target (backs calls))
    (sym (calls_kept c.self.inside.threads.list c.args.self.now (ap (λ (s : Stacks). s.threads) c.self.view_is) c.args.tid c.unwrap-calls.result.now here))

pub returns-clause-threads : goal.returns-clause-threads
returns-clause-threads c =
    let here : value_of c.self.inside.threads.list c.args.tid ≡ Some c.unwrap-calls.result.now = sym c.get_mut.ensures.found ∙ ap option_copied_mut c.unwrap-calls.ensures in
    returned c.self.inside.threads.list c.args.self.now (ap (λ (s : Stacks). s.threads) c.self.view_is) c.args.tid c.unwrap-calls.result.now c.pop_to-ended.new.self c.pop_to-ended.result here c.pop_to-ended.ensures.within c.pop_to-ended.ensures.calls
