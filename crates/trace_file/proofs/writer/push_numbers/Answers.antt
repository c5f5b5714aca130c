use Rattle.std.proofs.lemmas.List.{take_more}
use Rattle.trace_file.specs.Records.{number_bytes}
use Rattle.guest_words.proofs.Pieces.{one_more}
use Rattle.trace_file.proofs.writer.push_numbers.Goals as goal

pub loop-number-preserved : goal.loop-number-preserved
loop-number-preserved c =
    let numbers = c.args.numbers.now in
    one_more number_bytes _ _ _ c.args.text.now.items c.loop-number.text.items c.push_number.new.text.items
    (take_more numbers c.loop-number.number-index 0 c.loop-number-test.true) c.loop-number.invariant c.in_ok-push_number.ensures.ok
