use Rattle.std.proofs.Common.{◌++◌, ◌∷◌, [], sym, subst, ap, ◌∙◌}
use Rattle.trace_file.specs.Reading.{ReaderState}
use Rattle.trace_file.specs.TraceText.{IsRising}
use Rattle.trace_file.proofs.Adding.{not_true, is_true}
use Rattle.trace_file.proofs.reader.TraceReader.refuse_name.Goals as goal

pub returns-then-is_above-clause-memory : goal.returns-then-is_above-clause-memory
returns-then-is_above-clause-memory c past name is out =
    let names = c.deref.ensures.value ∙ ap (λ (s : ReaderState). s.names) c.self.view_is in
    out (subst (λ ns. IsRising (ns ++ (c.args.entry, name) ∷ [])) names ((c.is_above.ensures name).0 (is_true _ c.if-is_above.true)))

pub returns-else-is_above-clause-err : goal.returns-else-is_above-clause-err
returns-else-is_above-clause-err c past name is =
    let names = c.deref.ensures.value ∙ ap (λ (s : ReaderState). s.names) c.self.view_is in (
      ap (λ (s : ReaderState). s.at) c.self.view_is,
      λ rises. not_true _ c.if-is_above.false ((c.is_above.ensures name).1 (subst (λ ns. IsRising (ns ++ (c.args.entry, name) ∷ [])) (sym names) rises)),
    )
