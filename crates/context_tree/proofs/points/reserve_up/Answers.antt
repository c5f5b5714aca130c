use Rattle.std.proofs.Common.{◌∙◌, ◌-◌, arith, ℕ, ap}
use Rattle.std.proofs.lemmas.List.{length-set}
use Rattle.context_tree.proofs.Climbing.{lists_kept, next_up, some_there, spare_more, still_within}
use Rattle.context_tree.proofs.points.reserve_up.Goals as goal

pub index_mut-context-requires : goal.index_mut-context-requires
index_mut-context-requires c =
    let some = some_there c.args.numbers.now c.args.from c.args.count c.loop.counter c.loop.n c.requires.way c.loop-test.true c.loop.invariant.at in
    let within = still_within c.args.numbers.now c.args.from c.args.count c.loop.counter c.loop.n c.requires.way c.loop-test.true c.loop.invariant.at in
    omega (arith, some, within, c.loop.invariant.long)

pub returns-in_err-reserve-clause-points : goal.returns-in_err-reserve-clause-points
returns-in_err-reserve-clause-points c =
    let some = some_there c.args.numbers.now c.args.from c.args.count c.loop.counter c.loop.n c.requires.way c.loop-test.true c.loop.invariant.at in
    let within = still_within c.args.numbers.now c.args.from c.args.count c.loop.counter c.loop.n c.requires.way c.loop-test.true c.loop.invariant.at in
    lists_kept c.loop.points.items (c.loop.n - 1) (omega (arith, some, within, c.loop.invariant.long)) c.index_mut-context.result.now c.reserve.new.self c.index_mut-context.ensures.value c.reserve.ensures.points
    ∙ c.loop.invariant.points

pub place-n-requires-clause-within : goal.place-n-requires-clause-within
place-n-requires-clause-within c = still_within c.args.numbers.now c.args.from c.args.count c.loop.counter c.loop.n c.requires.way c.loop-test.true c.loop.invariant.at

pub loop-preserved : goal.loop-preserved
loop-preserved c =
    let places = c.args.numbers.now in
    let some = some_there c.args.numbers.now c.args.from c.args.count c.loop.counter c.loop.n c.requires.way c.loop-test.true c.loop.invariant.at in
    let within = still_within c.args.numbers.now c.args.from c.args.count c.loop.counter c.loop.n c.requires.way c.loop-test.true c.loop.invariant.at in
    record {
      at = next_up places c.args.from c.args.count c.loop.counter c.loop.n c.requires.way c.loop-test.true c.loop.invariant.at c.place-n.result.0 (ap (λ (p : ℕ × ℕ). p.0) c.place-n.ensures.here);
      long = length-set c.loop.points.items (c.loop.n - 1) c.reserve.new.self ∙ c.loop.invariant.long;
      points = lists_kept c.loop.points.items (c.loop.n - 1) (omega (arith, some, within, c.loop.invariant.long)) c.index_mut-context.result.now c.reserve.new.self c.index_mut-context.ensures.value c.reserve.ensures.points
          ∙ c.loop.invariant.points;
      room = spare_more places c.args.from c.args.count c.loop.counter c.loop.n c.requires.way c.loop-test.true c.loop.invariant.at c.loop.points.items c.reserve.new.self c.loop.invariant.long
          c.in_ok-reserve.ensures.room c.loop.invariant.room;
    }
