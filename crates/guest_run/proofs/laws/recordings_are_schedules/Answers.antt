use Rattle.guest_run.proofs.Entries.{every_run_entries}
use Rattle.guest_run.proofs.laws.recordings_are_schedules.Goals as goal

pub returns : goal.returns
returns c = record { entries = every_run_entries }
