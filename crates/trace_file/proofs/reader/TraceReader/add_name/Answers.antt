use Rattle.std.proofs.Common.{◌++◌, ◌∷◌, [], sym, subst, ap, ap₂, ◌∙◌}
use Rattle.std.specs.Prelude.{Err, IfErr}
use Rattle.std.proofs.lemmas.Result.{err_from_is_err_and}
use Rattle.trace_file.specs.declared.records.Record.TheVariants.{OfName}
use Rattle.trace_file.specs.Reading.{ReaderState}
use Rattle.trace_file.specs.Private.Steps.{IsInOrder}
use Rattle.trace_file.specs.TraceText.{IsRising, Names}
use Rattle.trace_file.proofs.Adding.{added_name, not_true, is_true}
use Rattle.trace_file.proofs.reader.TraceReader.add_name.Goals as goal

pub returns-then-not-is_above-clause-err : goal.returns-then-not-is_above-clause-err
returns-then-not-is_above-clause-err c past is =
    let names = c.deref.ensures.value ∙ ap (λ (s : ReaderState). s.names) c.self.view_is in (
      ap (λ (s : ReaderState). s.at) c.self.view_is,
      λ rises. not_true _ c.if-not-is_above.true ((c.is_above.ensures c.args.name).1 (subst (λ ns. IsRising (ns ++ (c.args.entry, c.args.name) ∷ [])) (sym names) rises)),
    )

pub returns-clause-ok : goal.returns-clause-ok
returns-clause-ok c past is =
    let names = c.deref.ensures.value ∙ ap (λ (s : ReaderState). s.names) c.self.view_is in
    let rises = subst (λ ns. IsRising (ns ++ (c.args.entry, c.args.name) ∷ [])) names ((c.is_above.ensures c.args.name).0 (is_true _ c.if-not-is_above.false)) in
    added_name c.args.self.now _ past c.args.entry c.args.name is c.requires.fits rises
    (ap₂ (λ (s : ReaderState) (ns : Names). record s { names = ns }) c.self.view_is (c.in_ok-push_name.ensures.ok ∙ ap (λ (s : ReaderState). s.names ++ (c.args.entry, c.args.name) ∷ []) c.self.view_is))

pub returns-in_err-push_name-clause-memory : goal.returns-in_err-push_name-clause-memory
returns-in_err-push_name-clause-memory c past is =
    let given = err_from_is_err_and c.from_residual.result c.from_residual.ensures.1 in
    let names = c.deref.ensures.value ∙ ap (λ (s : ReaderState). s.names) c.self.view_is in
    let rises = subst (λ ns. IsRising (ns ++ (c.args.entry, c.args.name) ∷ [])) names ((c.is_above.ensures c.args.name).0 (is_true _ c.if-not-is_above.false)) in
    subst (λ r. IfErr r (λ x. IsInOrder c.args.self.now past (OfName c.args.entry c.args.name) x)) (sym (given.1 ∙ ap (λ x. Err x) given.2)) (λ out. out rises)
