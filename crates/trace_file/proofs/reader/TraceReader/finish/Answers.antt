use Rattle.std.proofs.Common.{ap, sym, ◌∙◌}
use Rattle.trace_file.specs.Reading.{ReaderState}
use Rattle.trace_file.proofs.ReadBytes.{cut_off}
use Rattle.trace_file.proofs.Feeding.{reading_of}
use Rattle.trace_file.proofs.reader.TraceReader.finish.Goals as goal

pub returns-clause-err : goal.returns-clause-err
returns-clause-err c bytes past is =
    let none = sym (ap (λ (s : ReaderState). s.refusal) c.self.view_is) ∙ c.in_default.is in
    let ends = sym (ap (λ (s : ReaderState). s.finish) c.self.view_is) ∙ c.in-None.is in
    cut_off c.args.self bytes past (reading_of c.args.self bytes past none is) ends
