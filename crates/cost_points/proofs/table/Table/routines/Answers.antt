use Rattle.std.proofs.Common.{ap, subst}
use Rattle.cost_points.specs.Contents.{TableContents}
use Rattle.cost_points.specs.Valid.{IsProfile}
use Rattle.cost_points.proofs.table.Table.routines.Goals as goal

pub returns-clause-profile : goal.returns-clause-profile
returns-clause-profile c = subst IsProfile (ap (λ (t : TableContents). t.routines) c.self.view_is) c.self.invariant.profile
