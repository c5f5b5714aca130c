use Rattle.std.proofs.Common.{◌-◌, sym, ◌∙◌, arith}
use Rattle.guest_memory.specs.Guest.{memory_of}
use Rattle.guest_calls.proofs.PathEnds.{path_ends, path_reads, path_does_not_end}
use Rattle.guest_calls.proofs.paths.path_end.Goals as goal

pub returns-then-ends_path-clause-value : goal.returns-then-ends_path-clause-value
returns-then-ends_path-clause-value c =
    let first = c.from-first.ensures in
    let from = c.loop-at.auto.at in
    let test = c.loop-at-test.true in
    sym (path_ends (memory_of c.args.memory.now) c.args.path c.loop-at.at (omega (arith, first, from)) (omega (arith, first, test)) (sym c.ends_path.ensures ∙ c.if-ends_path.true) c.loop-at.invariant)

pub returns-then-ends_path-clause-reach : goal.returns-then-ends_path-clause-reach
returns-then-ends_path-clause-reach c =
    let first = c.from-first.ensures in
    let from = c.loop-at.auto.at in
    path_reads (memory_of c.args.memory.now) c.args.path (c.loop-at.at - c.args.path) (λ q low high. c.loop-at.invariant q low (omega (arith, first, from, high)))

pub returns-clause-value : goal.returns-clause-value
returns-clause-value c =
    let first = c.from-first.ensures in
    let test = c.loop-at-test.false in
    sym (path_does_not_end (memory_of c.args.memory.now) c.args.path (λ q low high. c.loop-at.invariant q low (omega (arith, first, test, high))))
