use Rattle.std.proofs.Common.{rules, sym, subst, ◌∙◌}
use Rattle.std.specs.Result.{IfErr}
use Rattle.std.proofs.lemmas.Result.{err_from_is_err_and}
use Rattle.std.specs.Prelude.{◌≡◌}
use Rattle.trace_file.specs.declared.record_reader.Stop.TheVariants.{Memory}
use Rattle.trace_file.specs.Private.RecordParts.{AreNumbers, HasNameBody, IsBody, Stops}
use Rattle.trace_file.proofs.Bodies.{found_name, found_record, has_numbers, numbers_stop, stop_line, stop_name, wanted_name}
use Rattle.trace_file.proofs.record_reader.read_body.Goals as goal

pub returns-in_err-numbers-clause-stops : goal.returns-in_err-numbers-clause-stops
returns-in_err-numbers-clause-stops c =
    let given = err_from_is_err_and c.from_residual.result c.from_residual.ensures.1 in
    let stops = numbers_stop c.args.wanted c.args.bytes.now _ (subst (λ rs. Stops (AreNumbers rs) c.args.bytes.now c.in_err-numbers.field-0.0) c.ranges-2.ensures.value c.in_err-numbers.ensures.stops) in
    subst (λ r. IfErr r (λ stop. Stops (IsBody c.args.wanted) c.args.bytes.now stop)) (sym given.1)
    (subst (λ stop. Stops (IsBody c.args.wanted) c.args.bytes.now stop) (sym given.2) stops)

pub returns-in_err-read_name-in-Named-clause-stops : goal.returns-in_err-read_name-in-Named-clause-stops
returns-in_err-read_name-in-Named-clause-stops c =
    let given = err_from_is_err_and c.from_residual-in_err-read_name-in-Named.result c.from_residual-in_err-read_name-in-Named.ensures.1 in
    let found = c.in_ok-numbers.ensures.found in
    let has = has_numbers c.args.wanted _ c.in_ok-numbers.numbers _ _ c.ranges-2.ensures.value (search rules) found.0 found.1 in
    let stops = stop_name c.args.wanted c.in_ok-numbers.numbers _ _ _ c.in-Named.is has c.in_err-read_name-in-Named.ensures.stops in
    subst (λ r. IfErr r (λ stop. Stops (IsBody c.args.wanted) c.args.bytes.now stop)) (sym given.1)
    (subst (λ stop. Stops (IsBody c.args.wanted) c.args.bytes.now stop) (sym given.2) stops)

pub returns-in_ok-read_name-in-Named-clause-found : goal.returns-in_ok-read_name-in-Named-clause-found
returns-in_ok-read_name-in-Named-clause-found c =
    let found = c.in_ok-numbers.ensures.found in
    let has = has_numbers c.args.wanted _ c.in_ok-numbers.numbers _ _ c.ranges-2.ensures.value (search rules) found.0 found.1 in
    let name = c.in_ok-read_name-in-Named.ensures.found in
    found_name c.args.wanted c.in_ok-numbers.numbers _ _ _ _ c.in-Named.is has name.0 name.1 name.2

pub returns-in-Some : goal.returns-in-Some
returns-in-Some c =
    let found = c.in_ok-numbers.ensures.found in
    let has = has_numbers c.args.wanted _ c.in_ok-numbers.numbers _ _ c.ranges-2.ensures.value (search rules) found.0 found.1 in
    record { found = found_record c.args.wanted _ _ _ _ has c.in-Some.ensures.found; stops = tt; memory = λ entry. tt }

pub returns-in-None : goal.returns-in-None
returns-in-None c =
    let found = c.in_ok-numbers.ensures.found in
    let has = has_numbers c.args.wanted _ c.in_ok-numbers.numbers _ _ c.ranges-2.ensures.value (search rules) found.0 found.1 in
    record { found = tt; stops = stop_line c.args.wanted c.in_ok-numbers.numbers _ _ c.in-None.ensures.none has; memory = λ entry same. absurd (let no = same in cc) }

pub returns-in_err-read_name-in-Named-clause-memory : goal.returns-in_err-read_name-in-Named-clause-memory
returns-in_err-read_name-in-Named-clause-memory c entry =
    let given = err_from_is_err_and c.from_residual-in_err-read_name-in-Named.result c.from_residual-in_err-read_name-in-Named.ensures.1 in
    let found = c.in_ok-numbers.ensures.found in
    let has = has_numbers c.args.wanted _ c.in_ok-numbers.numbers _ _ c.ranges-2.ensures.value (search rules) found.0 found.1 in
    subst (λ r. IfErr r (λ stop. stop ≡ Memory entry → HasNameBody c.args.wanted entry c.args.bytes.now)) (sym given.1)
    (λ same. let there = c.in_err-read_name-in-Named.ensures.memory entry (sym given.2 ∙ same) in
    subst (λ of. HasNameBody c.args.wanted of c.args.bytes.now) (sym there.0) (wanted_name c.args.wanted c.in_ok-numbers.numbers _ _ c.in-Named.is has (there.1, there.2)))
