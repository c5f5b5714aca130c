use Rattle.aprof_top.proofs.ValidReports.{stored_reports_valid}
use Rattle.aprof_top.proofs.laws.stored_reports_are_valid.Goals as goal

pub returns : goal.returns
returns c = stored_reports_valid
