use Rattle.std.proofs.Common.{arith, ap, subst, sym, ◌∙◌}
use Rattle.run_profile.specs.Profile.{IsProfileOf, KeptRun}
use Rattle.run_profile.proofs.Profiles.{few_more, of_formed, settled, stepped}
use Rattle.run_profile.proofs.profile.ProfileObserver.observe_steps.Goals as goal

pub settle-requires : goal.settle-requires
settle-requires g c = of_formed g.S.Stamp.MAX g.K.Keeper.holds c.args.tid c.args.count _ c.requires.may

pub take_steps-requires-clause-may : goal.take_steps-requires-clause-may
take_steps-requires-clause-may g c =
    let may = c.requires.may in
    let p = subst (λ (k : KeptRun g.row.K.Denot). IsProfileOf g.S.Stamp.MAX g.K.Keeper.holds k may.past) (sym c.self.view_is) (c.settle.ensures.stands may.past may.now) in
    record { past = may.past; now = p.stands; fitting = may.fitting; formed = may.formed }

pub take_steps-requires-2-clause-may : goal.take_steps-requires-2-clause-may
take_steps-requires-2-clause-may g c =
    let may = c.requires.may in
    let p = subst (λ (k : KeptRun g.row.K.Denot). IsProfileOf g.S.Stamp.MAX g.K.Keeper.holds k may.past) (sym c.self.view_is) (c.settle.ensures.stands may.past may.now) in
    let none = ap (λ (k : KeptRun g.row.K.Denot). k.next) c.self.view_is ∙ c.in_ok-settle.ensures.settled in
    record { past = may.past; now = settled g.S.Stamp.MAX g.K.Keeper.holds _ may.past p none; formed = may.formed }

pub overflow_add-self : goal.overflow_add-self
overflow_add-self g c =
    let may = c.requires.may in
    let p = subst (λ (k : KeptRun g.row.K.Denot). IsProfileOf g.S.Stamp.MAX g.K.Keeper.holds k may.past) (sym c.self.view_is) (c.settle.ensures.stands may.past may.now) in
    omega (arith, few_more c.args.tid c.args.count may.past c.self.inside.steps c.requires.some may.formed p.steps_are)

pub returns : goal.returns
returns g c = record {
  stepped = λ past kept fitting.
      let p = subst (λ (k : KeptRun g.row.K.Denot). IsProfileOf g.S.Stamp.MAX g.K.Keeper.holds k past) (sym c.self.view_is) (c.settle.ensures.stands past kept) in
      let none = ap (λ (k : KeptRun g.row.K.Denot). k.next) c.self.view_is ∙ c.in_ok-settle.ensures.settled in
      stepped g.S.Stamp.MAX g.K.Keeper.holds c.args.tid c.args.count _ c.take_steps.new.self c.take_steps-2.new.self past p none (c.take_steps.ensures.stands past p.stands)
      (c.take_steps-2.ensures past (settled g.S.Stamp.MAX g.K.Keeper.holds _ past p none));
}
