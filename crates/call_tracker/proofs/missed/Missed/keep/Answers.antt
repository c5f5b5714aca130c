use Rattle.std.proofs.Common.{arith, refl}
use Rattle.call_tracker.proofs.Searched.{missed-left}
use Rattle.call_tracker.proofs.missed.Missed.keep.Goals as goal

pub returns-then-depth-self : goal.returns-then-depth-self
returns-then-depth-self c = λ backs are. missed-left backs c.args.self.now _ c.args.depth refl (omega (arith, c.if-depth-self.true)) are

pub returns-else-depth-self : goal.returns-else-depth-self
returns-else-depth-self c = λ backs are. missed-left backs c.args.self.now _ c.args.depth refl (omega (arith, c.if-depth-self.false)) are
