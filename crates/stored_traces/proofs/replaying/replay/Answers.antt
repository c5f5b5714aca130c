use Rattle.std.proofs.Common.{◌≡◌, ◌++◌, [], ap, ap₂, subst, sym, ◌∙◌, append_assoc}
use Rattle.std.proofs.lemmas.List.{append-nil, take-append-drop}
use Rattle.std.proofs.lemmas.Result.{err_from_is_err_and}
use Rattle.trace_file.specs.Reading.{IsTraceRefused}
use Rattle.stored_traces.specs.Replays.{Replays}
use Rattle.stored_traces.proofs.Cuts.{empty_of}
use Rattle.stored_traces.proofs.replaying.replay.Goals as goal

pub returns-in_err-feed : goal.returns-in_err-feed
returns-in_err-feed g c =
    let inv = c.loop-rest.invariant in
    let p = err_from_is_err_and c.from_residual-in_err-feed.result c.from_residual-in_err-feed.ensures.1 in
    let front = c.split_at.result.0.now in
    let back = c.split_at.result.1.now in
    let joined = ap₂ ◌++◌ c.split_at.ensures.front c.split_at.ensures.back ∙ take-append-drop c.min.result c.loop-rest.rest.now in
    let refused = c.in_err-feed.ensures.err inv.0 back inv.2 in
    rw (p.1, p.2) (refused.0, subst (λ bs. IsTraceRefused bs refused.0 c.in_err-feed.field-0.0) (ap (λ rest. inv.0 ++ rest) joined ∙ inv.1) refused.1)

pub loop-rest-preserved : goal.loop-rest-preserved
loop-rest-preserved g c =
    let inv = c.loop-rest.invariant in
    let front = c.split_at.result.0.now in
    let back = c.split_at.result.1.now in
    let joined = ap₂ ◌++◌ c.split_at.ensures.front c.split_at.ensures.back ∙ take-append-drop c.min.result c.loop-rest.rest.now in
    (inv.0 ++ front, append_assoc inv.0 front back ∙ ap (λ rest. inv.0 ++ rest) joined ∙ inv.1, c.in_ok-feed.ensures.ok inv.0 inv.2)

pub returns : goal.returns
returns g c =
    let inv = c.loop-rest.invariant in
    let none : c.loop-rest.rest.now ≡ [] = empty_of c.loop-rest.rest.now (sym c.is_empty.ensures ∙ c.loop-rest-test.false) in
    subst (λ bs. Replays g.S.Stamp.MAX bs c.finish.result) (sym (append-nil inv.0) ∙ ap (λ rest. inv.0 ++ rest) (sym none) ∙ inv.1) (c.finish.ensures.replays inv.0 inv.2)
