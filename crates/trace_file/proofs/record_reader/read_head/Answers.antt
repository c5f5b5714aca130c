use Rattle.std.proofs.Common.{rules, arith}
use Rattle.std.proofs.lemmas.Bool.Decides.{nat_tests}
use Rattle.trace_file.proofs.Heads.{begun_empty, begun_ten}
use Rattle.trace_file.proofs.record_reader.read_head.Goals as goal

pub returns-then-is_empty-clause-stops : goal.returns-then-is_empty-clause-stops
returns-then-is_empty-clause-stops c = let h = c.if-is_empty.true in let e = c.is_empty.ensures in begun_empty c.args.bytes.now (grind (arith, nat_tests, h, e))

pub returns-then-bytes-eq1-clause-stops : goal.returns-then-bytes-eq1-clause-stops
returns-then-bytes-eq1-clause-stops c = begun_ten c.args.bytes.now c.if-bytes-eq1.true (search rules)
