use Rattle.std.proofs.Common.{arith, rules, subst, sym}
use Rattle.cost_points.specs.Search.{HasRoom}
use Rattle.cost_points.specs.Private.Tallies.{tallied}
use Rattle.cost_points.proofs.Tallied.{Fitting, others_fit}
use Rattle.cost_points.proofs.tally.Tally.take_in.Goals as goal

pub invariant_of-self-then-self : goal.invariant_of-self-then-self
invariant_of-self-then-self c =
    let room = subst HasRoom (sym c.self.view_is) c.requires.room in
    record {
      calls = omega (arith, room.calls);
      split = subst (λ s. Fitting (tallied c.self.inside.told c.self.inside.size c.self.inside.own s)) (sym c.add_one.ensures)
          (others_fit c.self.inside.told c.self.inside.size c.self.inside.own c.self.inside.split c.args.ended.now c.if-self.true (search rules) (search rules) room.split);
    }
