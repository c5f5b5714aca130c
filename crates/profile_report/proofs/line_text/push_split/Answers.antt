use Rattle.std.proofs.Common.{rules, append_assoc}
use Rattle.std.proofs.lemmas.Result.{IfOk-equal}
use Rattle.profile_report.proofs.line_text.push_split.Goals as goal

pub returns-in_ok-push_wide-in-Some-3-clause-ok : goal.returns-in_ok-push_wide-in-Some-3-clause-ok
returns-in_ok-push_wide-in-Some-3-clause-ok c = search (rules, IfOk-equal, append_assoc)
