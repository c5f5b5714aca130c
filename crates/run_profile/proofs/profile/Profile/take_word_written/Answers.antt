use Rattle.std.proofs.Common.{◌≡◌, ◌∙◌, ◌∷◌, None, ap, subst, sym, true}
use Rattle.trace_model.specs.declared.event_kinds.Event.TheVariants.{Write}
use Rattle.trace_model.specs.Depth.{is_within}
use Rattle.trace_model.specs.Observing.{with_steps}
use Rattle.shadow_core.specs.Profiling.{StandsFor}
use Rattle.run_profile.specs.Profile.{IsProfileOf, KeptRun}
use Rattle.run_profile.proofs.Profiles.{access_taken, may_step, not_some}
use Rattle.run_profile.proofs.profile.Profile.take_word_written.Goals as goal

pub word_written-requires : goal.word_written-requires
word_written-requires g c =
    let may = c.requires.may in
    let p = subst (λ (k : KeptRun g.row.K.Denot). IsProfileOf g.S.Stamp.MAX g.K.Keeper.holds k may.past) (sym c.self.view_is) may.now in
    may_step g.S.Stamp.MAX c.args.tid c.args.count (Write c.args.tid c.args.w 1) c.self.inside.profiler may.past p.stands c.requires.some may.formed

pub returns-in-Some : goal.returns-in-Some
returns-in-Some g c = record {
  observed = λ past kept fitting.
      let t = c.args.tid in
      let e = Write t c.args.w 1 in
      let none : c.args.self.now.next ≡ None =
      ap (λ (k : KeptRun g.row.K.Denot). k.next) (sym c.self.view_is) ∙ not_some c.self.inside.next (sym c.is_some.ensures ∙ c.if-is_some.false) in
      let new = c.write_after.new.self in
      let is = c.self-in-Some.view_is in
      subst (λ (k : KeptRun g.row.K.Denot). IsProfileOf g.S.Stamp.MAX g.K.Keeper.holds (record k { stamps = new }) (e ∷ with_steps t c.args.count past)
      × (is_within g.S.Stamp.MAX (e ∷ with_steps t c.args.count past) ≡ true)) (sym is)
      (access_taken g.S.Stamp.MAX g.K.Keeper.holds t c.args.count c.args.self.now past kept none c.pass_after.new.self e new c.pass_after.ensures.stamps c.pass_after.ensures.passed
      (λ stands. c.write_after.ensures.stands past (subst (λ (k : KeptRun g.row.K.Denot). StandsFor g.S.Stamp.MAX k.stamps past) (sym is) stands)));
}
