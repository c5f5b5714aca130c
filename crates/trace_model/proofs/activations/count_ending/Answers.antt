use Rattle.std.proofs.Common.{reverse, sym, ◌∙◌}
use Rattle.std.proofs.lemmas.Bool.{eqb-true}
use Rattle.trace_model.specs.Activations.{backs}
use Rattle.trace_model.proofs.Ended.{ret_ends}
use Rattle.trace_model.proofs.activations.count_ending.Goals as goal

pub returns-then-eq-clause-count : goal.returns-then-eq-clause-count
returns-then-eq-clause-count c =
    let own = eqb-true c.in-Ret.by c.args.tid (sym c.eq.ensures ∙ c.if-eq.true) in
    c.count_returned.ensures.count
    ∙ sym (ret_ends c.args.e.now c.args.tid c.in-Ret.by c.in-Ret.target (backs (reverse c.args.calls.now)) c.in-Ret.is own)
