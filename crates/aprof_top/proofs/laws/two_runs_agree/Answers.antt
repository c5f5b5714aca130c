use Rattle.aprof_top.proofs.TwoRuns.{two_runs_agree}
use Rattle.aprof_top.proofs.laws.two_runs_agree.Goals as goal

pub returns : goal.returns
returns c = two_runs_agree c.runs_replay.ensures.observed_run c.recordings_are_schedules.ensures.entries
