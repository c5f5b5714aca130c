use Rattle.std.proofs.Common.{◌∙◌, sym, arith}
use Rattle.trace_file.proofs.NameBytes.{begun_name, none_early, none_whole}
use Rattle.trace_file.proofs.SeenNames.{rest_tells}
use Rattle.trace_file.proofs.record_reader.read_name.Goals as goal

pub returns-then-are_visible-clause-stops : goal.returns-then-are_visible-clause-stops
returns-then-are_visible-clause-stops c =
    begun_name c.args.bytes.now c.args.len c.requires.least c.requires.most c.if-bytes-len.true
    (sym (rest_tells c.args.seen c.args.bytes.now c.behind.result.now c.requires.seen c.behind.ensures) ∙ sym c.are_visible.ensures ∙ c.if-are_visible.true)

pub returns-then-bytes-len-clause-stops : goal.returns-then-bytes-len-clause-stops
returns-then-bytes-len-clause-stops c =
    none_early c.args.bytes.now c.args.len c.if-bytes-len.true
    (sym (rest_tells c.args.seen c.args.bytes.now c.behind.result.now c.requires.seen c.behind.ensures) ∙ sym c.are_visible.ensures ∙ c.if-are_visible.false)

pub returns-in-Err-Bad-clause-stops : goal.returns-in-Err-Bad-clause-stops
returns-in-Err-Bad-clause-stops c = none_whole c.args.bytes.now c.args.len (omega arith) (c.in-Err-Bad.ensures.bad.0 c.in-Err-Bad.field-0-is)
