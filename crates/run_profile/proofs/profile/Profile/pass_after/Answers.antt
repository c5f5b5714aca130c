use Rattle.std.proofs.Common.{[], arith, subst, sym}
use Rattle.trace_model.specs.Observing.{with_steps}
use Rattle.run_profile.specs.Private.Passing.{IsSettled}
use Rattle.run_profile.specs.Profile.{KeptRun}
use Rattle.run_profile.proofs.Profiles.{few_more, no_step, passed_after, waits_after}
use Rattle.run_profile.proofs.profile.Profile.pass_after.Goals as goal

pub overflow_add-self : goal.overflow_add-self
overflow_add-self g c =
    let may = c.requires.may in
    let own = subst (λ (k : KeptRun g.row.K.Denot). IsSettled g.K.Keeper.holds k may.past) (sym c.self.view_is) may.now in
    omega (arith, few_more c.args.tid c.args.count may.past c.self.inside.steps c.requires.some may.formed.2 own.steps_are)

pub returns-then-not-pass-clause-passed : goal.returns-then-not-pass-clause-passed
returns-then-not-pass-clause-passed g c = λ past stamps settled taken.
    let own = subst (λ (k : KeptRun g.row.K.Denot). IsSettled g.K.Keeper.holds k past) (sym c.self.view_is) settled in
    waits_after g.S.Stamp.MAX g.K.Keeper.holds c.args.tid c.args.count _ past own c.args.e (no_step c.args.e c.requires.open) stamps [] taken c.pass.new.self
    c.clear.new.self.items c.clear.ensures.items
    (c.if-not-pass.ensures.passes (with_steps c.args.tid c.args.count past) (c.take_steps.ensures past own.kept) taken.recorded)

pub returns-else-not-pass-clause-passed : goal.returns-else-not-pass-clause-passed
returns-else-not-pass-clause-passed g c = λ past stamps settled taken.
    let own = subst (λ (k : KeptRun g.row.K.Denot). IsSettled g.K.Keeper.holds k past) (sym c.self.view_is) settled in
    passed_after g.S.Stamp.MAX g.K.Keeper.holds c.args.tid c.args.count _ past own c.args.e (no_step c.args.e c.requires.open) stamps [] taken c.pass.new.self
    _
    (c.if-not-pass.ensures.passes (with_steps c.args.tid c.args.count past) (c.take_steps.ensures past own.kept) taken.recorded)
