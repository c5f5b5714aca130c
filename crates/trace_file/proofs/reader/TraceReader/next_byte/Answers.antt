use Rattle.std.proofs.Common.{◌∷◌, [], arith, sym, ap, ◌∙◌}
use Rattle.std.proofs.lemmas.Result.{IfErr-weaker}
use Rattle.trace_file.specs.Reading.{ReaderState}
use Rattle.trace_file.proofs.Feeding.{fed_behind, fed_line, fed_record, wants_record}
use Rattle.trace_file.proofs.reader.TraceReader.next_byte.Goals as goal

pub returns-then-self-lt14-clause-fed : goal.returns-then-self-lt14-clause-fed
returns-then-self-lt14-clause-fed c =
    let line = ap (λ (s : ReaderState). s.line) c.self.view_is in
    fed_line c.args.self.now _ c.args.byte c.args.events.now.list c.read_line_byte.result (omega (arith, line)) c.read_line_byte.ensures.ok c.read_line_byte.ensures.err

pub returns-in-Some-clause-fed : goal.returns-in-Some-clause-fed
returns-in-Some-clause-fed c =
    let line = ap (λ (s : ReaderState). s.line) c.self.view_is in
    fed_behind c.args.self.now _ c.args.byte _ _ c.args.events.now.list (omega (arith, line)) (sym (ap (λ (s : ReaderState). s.finish) c.self.view_is) ∙ c.in-Some.is) (ap (λ (s : ReaderState). s.at) c.self.view_is)

pub returns-in-None-clause-fed : goal.returns-in-None-clause-fed
returns-in-None-clause-fed c =
    let line = ap (λ (s : ReaderState). s.line) c.self.view_is in
    fed_record c.args.self.now _ (c.args.byte ∷ []) _ _ c.read_byte.result (omega (arith, line)) c.read_byte.ensures.fed

pub returns-in-None-clause-memory : goal.returns-in-None-clause-memory
returns-in-None-clause-memory c =
    let line = ap (λ (s : ReaderState). s.line) c.self.view_is in
    IfErr-weaker c.read_byte.result _ _ (λ e wants memory. wants_record c.args.self.now _ (c.args.byte ∷ []) _ _ (omega (arith, line)) (wants memory)) c.read_byte.ensures.memory
