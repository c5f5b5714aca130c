use Rattle.std.proofs.Common.{ℕ, List, arith, ap, subst, sym, take, ◌∙◌}
use Rattle.std.proofs.lemmas.List.{take_rest}
use Rattle.std.proofs.lemmas.Result.{err_from_is_err_and}
use Rattle.trace_file.specs.Reading.{HasFed, HasRead, ReaderState, RunsOutOfMemory}
use Rattle.trace_file.proofs.Feeding.{fed_part, fed_sticky, wants_behind_part}
use Rattle.trace_file.proofs.reader.TraceReader.feed.Goals as goal

pub returns-in-Some-clause-fed : goal.returns-in-Some-clause-fed
returns-in-Some-clause-fed c = fed_sticky c.args.self.now c.args.piece.now c.args.events.now.list _ (sym (ap (λ (s : ReaderState). s.refusal) c.self.view_is) ∙ c.in-Some.is)

pub parts-preserved : goal.parts-preserved
parts-preserved c =
    let so = c.parts.invariant in
    let piece = c.args.piece.now in
    let within = c.in_ok-read.ensures.within in
    let part = subst (λ (rest : List ℕ). HasFed c.parts.self c.take_part.new.self (take c.in_ok-read.field-0 rest) c.parts.events.list c.take_part.new.events.list) (take_rest piece c.parts.read) c.in_ok-read.ensures.fed in
    record {
      few = omega arith;
      none = c.in_ok-read.ensures.none;
      fed = fed_part c.args.self.now c.parts.self c.take_part.new.self piece c.parts.read c.in_ok-read.field-0 c.args.events.now.list c.parts.events.list c.take_part.new.events.list so.few so.fed part;
    }

pub returns-in_err-read-clause-memory : goal.returns-in_err-read-clause-memory
returns-in_err-read-clause-memory c none =
    let so = c.parts.invariant in
    let piece = c.args.piece.now in
    let given = err_from_is_err_and c.from_residual.result c.from_residual.ensures.1 in
    rw given.1 (λ memory. wants_behind_part c.args.self.now c.parts.self c.take_part.new.self piece c.parts.read c.args.events.now.list c.parts.events.list c.take_part.new.events.list so.fed
    (subst (λ (rest : List ℕ). RunsOutOfMemory HasRead c.parts.self c.take_part.new.self rest c.parts.events.list c.take_part.new.events.list) (take_rest piece c.parts.read)
    (c.in_err-read.ensures.memory (sym given.2 ∙ memory))))
