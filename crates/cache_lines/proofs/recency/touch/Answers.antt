use Rattle.std.proofs.Common.{◌≡◌, ◌==◌, not, sym, ap, take, drop, ◌+◌, ◌-◌, arith, rules}
use Rattle.std.specs.Prelude.{Some, None}
use Rattle.std.specs.List.{position}
use Rattle.cache_lines.proofs.Touches.{was-found, was-none, hit_is, miss_is}
use Rattle.cache_lines.proofs.recency.touch.Goals as goal

pub returns-in-Some-clause-missed : goal.returns-in-Some-clause-missed
returns-in-Some-clause-missed c =
    let found : position (λ m. m == c.args.line) (take c.args.used.now c.args.places.now) ≡ Some c.in-Some.place = search rules in
    sym (ap not (was-found c.args.line (take c.args.used.now c.args.places.now) c.in-Some.place found))

pub returns-in-Some-clause-after : goal.returns-in-Some-clause-after
returns-in-Some-clause-after c =
    let found : position (λ m. m == c.args.line) (take c.args.used.now c.args.places.now) ≡ Some c.in-Some.place = search rules in
    hit_is c.args.line c.args.used.now c.in-Some.place (c.in-Some.place + 1 - 1) (c.in-Some.place + 1) c.args.places.now c.write_first.new.places c.requires.inside found (omega arith) (omega arith) c.write_first.ensures.after

pub returns-in-None-clause-missed : goal.returns-in-None-clause-missed
returns-in-None-clause-missed c =
    let none : position (λ m. m == c.args.line) (take c.args.used.now c.args.places.now) ≡ None = search rules in
    sym (ap not (was-none c.args.line (take c.args.used.now c.args.places.now) none))

pub returns-in-None-clause-after : goal.returns-in-None-clause-after
returns-in-None-clause-after c =
    let none : position (λ m. m == c.args.line) (take c.args.used.now c.args.places.now) ≡ None = search rules in
    miss_is c.args.line c.args.used.now c.min-kept.result (c.min-kept.result - 1) c.args.places.now c.write_first-in-None.new.places (drop c.min-kept.result c.args.places.now) c.requires.some c.requires.inside none c.min-kept.ensures (omega arith) c.write_first-in-None.ensures.after
