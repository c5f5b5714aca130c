use Rattle.run_profile.proofs.KeptPoints.{stepped}
use Rattle.run_profile.proofs.points.PointsKeeper.take_steps.Goals as goal

pub returns : goal.returns
returns c = λ past holds. stepped _ c.args.tid c.args.count past holds
