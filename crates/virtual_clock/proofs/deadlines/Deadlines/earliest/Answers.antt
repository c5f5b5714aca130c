use Rattle.std.proofs.Common.{◌≡◌, sym, subst, rules}
use Rattle.std.specs.Option.{option_map}
use Rattle.virtual_clock.specs.Order.{first_of, IsEarliest}
use Rattle.virtual_clock.proofs.FirstOnes.{earliest_is}
use Rattle.virtual_clock.proofs.deadlines.Deadlines.earliest.Goals as goal

pub returns-clause-earliest : goal.returns-clause-earliest
returns-clause-earliest c =
    let is : c.map.result ≡ option_map (λ d. d.at) (first_of c.args.self.now) = search rules in
    subst (IsEarliest c.args.self.now) (sym is) (earliest_is c.args.self.now)
