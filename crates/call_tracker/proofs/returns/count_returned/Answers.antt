use Rattle.std.proofs.Common.{rules, tests, reverse}
use Rattle.std.proofs.lemmas.Iterator.Search.{position_from_yields_List}
use Rattle.std.proofs.lemmas.Iterator.Adapters.{YieldsList-from_rev_slice}
use Rattle.trace_model.specs.Activations.{is_back}
use Rattle.trace_model.proofs.Returned.{returned_by_position}
use Rattle.call_tracker.proofs.returns.count_returned.Goals as goal

pub returns-clause-count : goal.returns-clause-count
returns-clause-count g c =
    let calls = c.args.calls.now in
    let target = c.args.target in
    returned_by_position g.C.Returns.back_of (reverse calls) target _ c.position.result
    (position_from_yields_List (λ a. is_back target (g.C.Returns.back_of a)) _ _ c.position.result c.position.ensures.ran (YieldsList-from_rev_slice calls cc) (λ x b q k. search (rules, tests)))
    (search (rules, tests))
