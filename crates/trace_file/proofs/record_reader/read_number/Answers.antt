use Rattle.std.proofs.Common.{rules, ◌≡◌, ◌++◌, drop, sym, subst, arith}
use Rattle.trace_file.specs.Records.{number_bytes}
use Rattle.trace_file.proofs.OneNumber.{none, begun, whole, known_of}
use Rattle.trace_file.proofs.record_reader.read_number.Goals as goal

pub returns-then-least_number-from-clause-stops : goal.returns-then-least_number-from-clause-stops
returns-then-least_number-from-clause-stops c = none c.args.bytes.now c.args.range _ c.requires.least (omega arith) c.least_number.ensures (omega arith)

pub returns-then-bytes-lt4-clause-stops : goal.returns-then-bytes-lt4-clause-stops
returns-then-bytes-lt4-clause-stops c = begun c.args.bytes.now c.args.range _ (search rules) c.if-bytes-lt4.true c.requires.least (omega arith) c.least_number.ensures (omega arith)

pub returns-clause-found : goal.returns-clause-found
returns-clause-found c =
    let four = whole c.args.bytes.now (search rules) (omega arith) in
    let value = c.known_number.ensures.value in (
      known_of c.args.bytes.now c.args.range _ _ (search rules) (omega arith) c.requires.least (omega arith) c.least_number.ensures (omega arith) value,
      subst (λ n. c.args.bytes.now ≡ number_bytes n ++ drop 4 c.args.bytes.now) (sym value) four,
    )
