use Rattle.std.proofs.Common.{inl, ◌≡◌, ◌∙◌, refl, sym, ap}
use Rattle.std.proofs.lemmas.Result.{MatchResult-at_ok, MatchResult-at_err}
use Rattle.profile_report.specs.declared.line.LineError.TheVariants.{NoForm, Memory}
use Rattle.profile_report.specs.Grammar.{may_stand}
use Rattle.profile_report.proofs.OneText.{says_one}
use Rattle.profile_report.proofs.reader.step.Goals as goal

no_form : NoForm ≡ Memory → ⊥
no_form e = cc

pub returns-in-Err-NoForm-clause-err : goal.returns-in-Err-NoForm-clause-err
returns-in-Err-NoForm-clause-err c = c.misplaced.ensures c.args.bytes.now (λ line fits is. absurd (no_form (sym c.in-Err-NoForm.field-0-is ∙ MatchResult-at_err (λ x. x ≡ line) (λ e. e ≡ Memory) _ c.in-Err-NoForm.is (c.read_line.ensures.only line fits is))))

pub returns-in-Err-Memory-clause-err : goal.returns-in-Err-Memory-clause-err
returns-in-Err-Memory-clause-err c =
    let named = c.in-Err-Memory.ensures.memory c.in-Err-Memory.field-0-is in
    (named.0, says_one c.args.bytes.now named.0 named.1 named.2, inl named.3)

pub returns-then-not-may_stand-clause-err : goal.returns-then-not-may_stand-clause-err
returns-then-not-may_stand-clause-err c = c.misplaced-then-not-may_stand.ensures c.args.bytes.now (λ line fits is.
    let one = MatchResult-at_ok (λ x. x ≡ line) (λ e. e ≡ Memory) _ c.in-Ok.is (c.read_line.ensures.only line fits is) in
    ap (may_stand c.args.state) (sym one) ∙ sym c.may_stand.ensures ∙ c.if-not-may_stand.true)

pub returns-then-not-rises-clause-err : goal.returns-then-not-rises-clause-err
returns-then-not-rises-clause-err c = (
  refl,
  (
    c.in-Ok.line,
    record {
      fits = c.in-Ok.ensures.found.0;
      text = c.in-Ok.ensures.found.1;
      alone = λ other fits is. sym (MatchResult-at_ok (λ x. x ≡ other) (λ e. e ≡ Memory) _ c.in-Ok.is (c.read_line.ensures.only other fits is));
    },
    sym c.may_stand.ensures ∙ c.if-not-may_stand.false,
    sym c.rises.ensures ∙ c.if-not-rises.true,
  ),
)
