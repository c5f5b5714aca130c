use Rattle.std.proofs.Common.{◌≡◌, refl, rules}
use Rattle.std.specs.Prelude.{Some}
use Rattle.virtual_clock.specs.Order.{first_of}
use Rattle.virtual_clock.proofs.FirstOnes.{found_first, none_due}
use Rattle.virtual_clock.proofs.deadlines.Deadlines.due.Goals as goal
use Rattle.virtual_clock.proofs.deadlines.Deadlines.due.Goals.{in_default-via-in-Some+else-d-now, in_default-via-in_default}

pub returns-in-Some-clause-first : goal.returns-in-Some-clause-first
returns-in-Some-clause-first c =
    let first_is : first_of c.args.self.now ≡ Some c.in-Some.d = search rules in
    (c.in-Some.d, found_first c.args.self.now c.in-Some.d first_is, c.if-d-now.true, refl)

pub returns-in_default-clause-first : goal.returns-in_default-clause-first
returns-in_default-clause-first c =
    none_due c.args.self.now c.args.now (elim c.in_default.branch [
      | in_default-via-in-Some+else-d-now w ↦ search rules
      | in_default-via-in_default w ↦ search rules
    ])
