use Rattle.std.proofs.Common.{◌≡◌, ◌∙◌, ap, sym, Some, None, List}
use Rattle.std.specs.Prelude.{slice_get}
use Rattle.guest_words.specs.ByThread.{value_of}
use Rattle.trace_model.specs.Activations.{open_calls}
use Rattle.call_tracker.specs.declared.open_calls.OpenCall.{OpenCall}
use Rattle.call_tracker.specs.CallStacks.{Stacks, call_of}
use Rattle.call_tracker.proofs.KeptCalls.{calls_kept, no_calls_kept, slice_get-map}
use Rattle.call_tracker.proofs.call_stacks.CallStacks.top.Goals as goal

pub returns-in_err-get-clause-value : goal.returns-in_err-get-clause-value
returns-in_err-get-clause-value c =
    let none : value_of c.self.inside.threads.list c.args.tid ≡ None = sym c.in_err-get.ensures in
    rw c.from_residual.ensures
    (ap (λ (calls : List OpenCall). slice_get calls 0) (sym (no_calls_kept c.self.inside.threads.list c.args.self.now (ap (λ (s : Stacks). s.threads) c.self.view_is) c.args.tid none)))

pub returns-in_err-get-clause-stands : goal.returns-in_err-get-clause-stands
returns-in_err-get-clause-stands c = λ past stands.
    let none : value_of c.self.inside.threads.list c.args.tid ≡ None = sym c.in_err-get.ensures in
    rw c.from_residual.ensures
    (ap (λ (calls : List OpenCall). slice_get calls 0)
    (sym (no_calls_kept c.self.inside.threads.list c.args.self.now (ap (λ (s : Stacks). s.threads) c.self.view_is) c.args.tid none) ∙ stands.calls_are c.args.tid)
    ∙ slice_get-map call_of (open_calls past c.args.tid))

pub returns-clause-value : goal.returns-clause-value
returns-clause-value c =
    let here : value_of c.self.inside.threads.list c.args.tid ≡ Some c.in_ok-get.field-0.now = sym c.in_ok-get.ensures in
    c.top.ensures
    ∙ ap (λ (calls : List OpenCall). slice_get calls 0) (sym (calls_kept c.self.inside.threads.list c.args.self.now (ap (λ (s : Stacks). s.threads) c.self.view_is) c.args.tid _ here))

pub returns-clause-stands : goal.returns-clause-stands
returns-clause-stands c = λ past stands.
    let here : value_of c.self.inside.threads.list c.args.tid ≡ Some c.in_ok-get.field-0.now = sym c.in_ok-get.ensures in
    c.top.ensures
    ∙ ap (λ (calls : List OpenCall). slice_get calls 0)
    (sym (calls_kept c.self.inside.threads.list c.args.self.now (ap (λ (s : Stacks). s.threads) c.self.view_is) c.args.tid _ here) ∙ stands.calls_are c.args.tid)
    ∙ slice_get-map call_of (open_calls past c.args.tid)
