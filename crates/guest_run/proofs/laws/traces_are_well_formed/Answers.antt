use Rattle.guest_run.proofs.Formed.{every_run_formed}
use Rattle.guest_run.proofs.ShortParts.{every_run_short}
use Rattle.guest_run.proofs.Weights.{every_run_light}
use Rattle.guest_run.proofs.laws.traces_are_well_formed.Goals as goal

pub returns-clause-short : goal.returns-clause-short
returns-clause-short c = every_run_short

pub returns-clause-light : goal.returns-clause-light
returns-clause-light c = every_run_light

pub returns-clause-formed : goal.returns-clause-formed
returns-clause-formed c = every_run_formed
