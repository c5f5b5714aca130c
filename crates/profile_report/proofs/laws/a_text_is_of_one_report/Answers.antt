use Rattle.profile_report.proofs.OneText.{report_same}
use Rattle.profile_report.proofs.laws.a_text_is_of_one_report.Goals as goal

pub returns : goal.returns
returns c r s = report_same r s
