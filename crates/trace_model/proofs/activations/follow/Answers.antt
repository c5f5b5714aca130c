use Rattle.std.proofs.Common.{◌≡◌, length, reverse, option_to_list, ◌-◌, [], take, ap, sym, ◌∙◌, arith}
use Rattle.trace_model.specs.Activations.{backs, count_ending}
use Rattle.trace_model.proofs.Ended.{follows}
use Rattle.trace_model.proofs.activations.follow.Goals as goal

pub returns-in_default : goal.returns-in_default
returns-in_default c =
    let calls = c.args.calls.now.items in
    let n = c.count_ending-ended.result in
    let value = c.deref.ensures.value in
    let long : c.len.result ≡ length calls = omega (arith, c.len.ensures, c.args.calls.now.ok.0) in
    ap reverse (c.truncate.ensures.items ∙ ap (λ m. take (m - n) calls) long)
    ∙ follows c.args.e.now c.args.tid c.args.at n calls []
    (ap option_to_list (sym c.in_default.is) ∙ c.begun.ensures)
    (c.count_ending-ended.ensures.count ∙ ap (λ cs. count_ending c.args.e.now c.args.tid (backs (reverse cs))) value)
    (omega (c.count_ending-ended.ensures.within, ap length value, arith))
