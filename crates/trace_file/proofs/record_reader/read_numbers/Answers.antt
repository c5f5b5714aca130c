use Rattle.std.proofs.Common.{rules, sym, subst, arith}
use Rattle.std.specs.Result.{IfErr}
use Rattle.std.proofs.lemmas.Result.{err_from_is_err_and}
use Rattle.trace_file.specs.Private.RecordParts.{AreNumbers, Stops}
use Rattle.trace_file.proofs.ManyNumbers.{read_text, read_within, stops_at}
use Rattle.trace_file.proofs.record_reader.read_numbers.Goals as goal

pub returns-in_err-numbers-clause-stops : goal.returns-in_err-numbers-clause-stops
returns-in_err-numbers-clause-stops c =
    let given = err_from_is_err_and c.from_residual.result c.from_residual.ensures.1 in
    let so = c.loop-i.invariant in
    let stops = stops_at c.loop-i.numbers c.args.ranges.now c.loop-i.i _ c.args.bytes.now c.loop-i.rest.now _ (omega arith) c.requires.sound so.within so.text c.in_err-numbers.ensures.stops in
    subst (λ r. IfErr r (λ stop. Stops (AreNumbers c.args.ranges.now) c.args.bytes.now stop)) (sym given.1)
    (subst (λ stop. Stops (AreNumbers c.args.ranges.now) c.args.bytes.now stop) (sym given.2) stops)

pub loop-i-preserved : goal.loop-i-preserved
loop-i-preserved c =
    let so = c.loop-i.invariant in
    let found = c.in_ok-numbers.ensures.found in
    record {
      long = search rules;
      within = read_within c.loop-i.numbers c.args.ranges.now c.loop-i.i _ _ (omega arith) (omega arith) so.within found.0;
      text = read_text c.args.bytes.now c.loop-i.rest.now _ c.loop-i.numbers c.loop-i.i _ (omega arith) so.text (rw c.behind_four-rest.ensures found.1);
    }
