use Rattle.guest_run.proofs.Ranges.{every_run_in_range}
use Rattle.guest_run.proofs.laws.runs_tell_in_range.Goals as goal

pub returns : goal.returns
returns c = every_run_in_range
