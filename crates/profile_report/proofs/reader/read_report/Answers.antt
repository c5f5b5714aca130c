use Rattle.std.proofs.Common.{◌≡◌, ◌∷◌, length, ap, ◌∙◌, sym, subst, arith}
use Rattle.std.specs.Result.{MatchResult, IfErr}
use Rattle.std.proofs.lemmas.List.{length-append}
use Rattle.std.proofs.lemmas.Result.{IfErr-weaker, IfOk-weaker, MatchResult-from_both, err_from_is_err_and}
use Rattle.profile_report.specs.declared.parse_state.ParseState.TheVariants.{Over}
use Rattle.profile_report.specs.declared.reader.ReportError.TheVariants as errors
use Rattle.profile_report.specs.Reading.{IsReportRefused}
use Rattle.profile_report.specs.ReportText.{report_text}
use Rattle.profile_report.specs.Valid.{IsValid}
use Rattle.profile_report.proofs.Behind.{allowed, allowed_rest, behind_all, behind_more, behind_next, over_one, refused_line}
use Rattle.profile_report.proofs.Written.{lines_of, lines_of-fit, lines_of-lead, lines_of-text}
use Rattle.profile_report.proofs.Read.{read_found}
use Rattle.profile_report.proofs.reader.read_report.Goals as goal

pub loop-line-preserved : goal.loop-line-preserved
loop-line-preserved c =
    let parts = c.in-Some.ensures.parts in
    record {
      behind = behind_more _ _ _ _ _ _ _ c.loop-line.invariant.behind parts.0 parts.1 c.in_ok-state.ensures.ok;
      few = omega (arith, ap length parts.1, length-append c.in-Some.line.now (10 ∷ c.in-Some.after.now), c.loop-line.invariant.few);
    }

pub returns-in_err-state-clause-refused : goal.returns-in_err-state-clause-refused
returns-in_err-state-clause-refused c =
    let given = err_from_is_err_and c.from_residual.result c.from_residual.ensures.1 in
    let refused = refused_line _ _ _ _ _ _ _ c.loop-line.invariant.behind c.in-Some.ensures.parts.0 c.in-Some.ensures.parts.1 c.in_err-state.ensures.err in
    subst (λ r. IfErr r (λ e. IsReportRefused c.args.text.now e)) (sym given.1) (subst (λ e. IsReportRefused c.args.text.now e) (sym given.2) refused)

pub returns-in_err-state-clause-only : goal.returns-in_err-state-clause-only
returns-in_err-state-clause-only c r valid is =
    let given = err_from_is_err_and c.from_residual.result c.from_residual.ensures.1 in
    let next = behind_next _ _ _ _ _ _ c.loop-line.invariant.behind (lines_of r) (Over r) (lines_of-fit r valid) (is ∙ sym (lines_of-text r)) (lines_of-lead r valid) c.in-Some.ensures.parts.0 c.in-Some.ensures.parts.1 in
    let memory = allowed _ _ _ _ next.0 next.1 next.2 next.3 next.4 c.in_err-state.ensures.err in
    subst (λ q. MatchResult q (λ x. x ≡ r) (λ e. e ≡ errors.Memory)) (sym given.1) (given.2 ∙ memory)

pub returns-clause-only : goal.returns-clause-only
returns-clause-only c r valid is =
    let all = behind_all _ _ _ _ c.loop-line.invariant.behind (lines_of r) (Over r) (lines_of-fit r valid) (is ∙ sym (lines_of-text r)) (lines_of-lead r valid) c.in_default.ensures.none in
    MatchResult-from_both c.finish.result (λ x. x ≡ r) (λ e. e ≡ errors.Memory)
    (IfOk-weaker c.finish.result _ (λ x. x ≡ r) (λ x h. over_one x r (sym h.0 ∙ all.0)) c.finish.ensures.ok)
    (IfErr-weaker c.finish.result _ (λ e. e ≡ errors.Memory) (λ e h. allowed_rest _ _ _ e r all.0 all.1 h) c.finish.ensures.err)

pub returns-clause-found : goal.returns-clause-found
returns-clause-found c = IfOk-weaker c.finish.result _ (λ r. IsValid r × (c.args.text.now ≡ report_text r)) (λ r h. read_found _ _ _ _ c.loop-line.invariant.behind r h.0 h.1) c.finish.ensures.ok
