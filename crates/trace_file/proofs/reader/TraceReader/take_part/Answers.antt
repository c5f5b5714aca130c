use Rattle.std.proofs.Common.{Some, ap, arith, subst, sym, ◌∙◌}
use Rattle.std.proofs.Math.Seq.{take-suc}
use Rattle.std.proofs.lemmas.Result.{err_from_is_err_and}
use Rattle.trace_file.specs.Reading.{HasFed, HasRead, RunsOutOfMemory}
use Rattle.trace_file.proofs.Feeding.{fed_rest, wants_part}
use Rattle.trace_file.proofs.reader.TraceReader.take_part.Goals as goal

pub returns-in_err-take_whole-in-Some-clause-refused : goal.returns-in_err-take_whole-in-Some-clause-refused
returns-in_err-take_whole-in-Some-clause-refused c =
    let given = err_from_is_err_and c.from_residual.result c.from_residual.ensures.1 in
    let answer = c.in_err-take_whole-in-Some.ensures.answer in
    rw given.1 (
      answer ∙ ap Some (sym given.2),
      fed_rest c.args.self.now c.take_whole.new.self c.args.piece.now c.in-Some.size _ _ _ answer
          (subst (λ p. HasFed c.args.self.now c.take_whole.new.self p c.args.events.now.list c.take_whole.new.events.list) (sym c.in-Some.ensures.text) c.take_whole.ensures.fed),
    )

pub returns-in_err-take_whole-in-Some-clause-memory : goal.returns-in_err-take_whole-in-Some-clause-memory
returns-in_err-take_whole-in-Some-clause-memory c =
    let given = err_from_is_err_and c.from_residual.result c.from_residual.ensures.1 in
    rw given.1 (λ memory.
    wants_part c.args.self.now c.take_whole.new.self c.args.piece.now c.in-Some.size _ _
    (subst (λ p. RunsOutOfMemory HasRead c.args.self.now c.take_whole.new.self p c.args.events.now.list c.take_whole.new.events.list) (sym c.in-Some.ensures.text)
    (c.in_err-take_whole-in-Some.ensures.memory (sym given.2 ∙ memory))))

pub returns-in_err-take_byte-in-None-clause-refused : goal.returns-in_err-take_byte-in-None-clause-refused
returns-in_err-take_byte-in-None-clause-refused c =
    let given = err_from_is_err_and c.from_residual-in_err-take_byte-in-None.result c.from_residual-in_err-take_byte-in-None.ensures.1 in
    let answer = c.in_err-take_byte-in-None.ensures.answer in
    rw given.1 (
      answer ∙ ap Some (sym given.2),
      fed_rest c.args.self.now c.take_byte.new.self c.args.piece.now 1 _ _ _ answer
          (subst (λ p. HasFed c.args.self.now c.take_byte.new.self p c.args.events.now.list c.take_byte.new.events.list) (sym (take-suc c.args.piece.now 0 0 (omega arith))) c.take_byte.ensures.fed),
    )

pub returns-in_err-take_byte-in-None-clause-memory : goal.returns-in_err-take_byte-in-None-clause-memory
returns-in_err-take_byte-in-None-clause-memory c =
    let given = err_from_is_err_and c.from_residual-in_err-take_byte-in-None.result c.from_residual-in_err-take_byte-in-None.ensures.1 in
    rw given.1 (λ memory.
    wants_part c.args.self.now c.take_byte.new.self c.args.piece.now 1 _ _
    (subst (λ p. RunsOutOfMemory HasRead c.args.self.now c.take_byte.new.self p c.args.events.now.list c.take_byte.new.events.list) (sym (take-suc c.args.piece.now 0 0 (omega arith)))
    (c.in_err-take_byte-in-None.ensures.memory (sym given.2 ∙ memory))))
