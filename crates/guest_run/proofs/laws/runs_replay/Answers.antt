use Rattle.guest_run.specs.Machine.{guest}
use Rattle.guest_run.proofs.Replayed.{replays_observed, replays_run}
use Rattle.guest_run.proofs.laws.runs_replay.Goals as goal

pub returns-clause-run : goal.returns-clause-run
returns-clause-run c = replays_run guest

pub returns-clause-observed_run : goal.returns-clause-observed_run
returns-clause-observed_run c = replays_observed
