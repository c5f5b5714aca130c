use Rattle.std.proofs.Common.{rules, append_assoc}
use Rattle.std.proofs.lemmas.Result.{IfOk-equal}
use Rattle.guest_words.proofs.Texts.{keeps, keeps_further}
use Rattle.profile_report.proofs.line_text.push_point.Goals as goal

pub returns-clause-ok : goal.returns-clause-ok
returns-clause-ok c = search (rules, IfOk-equal, append_assoc)

pub returns-clause-kept : goal.returns-clause-kept
returns-clause-kept c =
    let calls = keeps_further _ _ _ (keeps _ _ _ c.in_ok-push_decimal.ensures.ok) c.in_ok-push_labelled.ensures.kept in
    let most = keeps_further _ _ _ (keeps_further _ _ _ calls c.in_ok-push_labelled-2.ensures.kept) c.in_ok-push_labelled-3.ensures.kept in
    keeps_further _ _ _ (keeps_further _ _ _ most c.in_ok-push_wide.ensures.kept) c.push_split.ensures.kept
