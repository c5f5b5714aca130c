use Rattle.std.proofs.Common.{◌≡◌, ◌+◌, ◌<◌, true, arith, refl, subst, sym}
use Rattle.std.proofs.Math.Logic.{∥∥₁_elim, ∥∥₁_map}
use Rattle.std.proofs.Props.{props}
use Rattle.guest_words.specs.declared.limits.TheConstants.{TRACE_WEIGHT}
use Rattle.trace_model.specs.Observing.{with_steps}
use Rattle.cache_profile.specs.Profile.{KeptMisses, MissesStandFor, lives}
use Rattle.cache_profile.proofs.Bounds.{few_steps}
use Rattle.cache_profile.proofs.Following.{after_steps}
use Rattle.cache_profile.proofs.profile.CacheProfile.take_steps.Goals as goal

pub overflow_add-self : goal.overflow_add-self
overflow_add-self g c =
    let light = subst (λ (k : KeptMisses). k.progress.weight + c.args.count < TRACE_WEIGHT) (sym c.self.view_is) c.requires.light in
    ∥∥₁_elim c.self.invariant (hlevel props) (λ of. omega (arith, few_steps of.past _ c.args.count of.now.progress_is.weight light, of.now.steps_are))

pub pass_steps-requires-clause-light : goal.pass_steps-requires-clause-light
pass_steps-requires-clause-light g c = subst (λ (k : KeptMisses). k.progress.weight + c.args.count < TRACE_WEIGHT) (sym c.self.view_is) c.requires.light

pub invariant_of-self : goal.invariant_of-self
invariant_of-self g c =
    let alive = subst (λ (k : KeptMisses). lives k c.args.tid ≡ true) (sym c.self.view_is) c.requires.lives in
    let light = subst (λ (k : KeptMisses). k.progress.weight + c.args.count < TRACE_WEIGHT) (sym c.self.view_is) c.requires.light in
    ∥∥₁_map c.self.invariant (λ of. record {
      past = with_steps c.args.tid c.args.count of.past;
      now = after_steps g.K.Shaped.shape of.past c.args.tid c.args.count _ _ c.pass_steps.new.self alive light refl (c.pass_steps.ensures.stands of.past) of.now;
    })

pub returns : goal.returns
returns g c = λ past stands.
    let alive = subst (λ (k : KeptMisses). lives k c.args.tid ≡ true) (sym c.self.view_is) c.requires.lives in
    let light = subst (λ (k : KeptMisses). k.progress.weight + c.args.count < TRACE_WEIGHT) (sym c.self.view_is) c.requires.light in
    after_steps g.K.Shaped.shape past c.args.tid c.args.count _ _ c.pass_steps.new.self alive light refl (c.pass_steps.ensures.stands past)
    (subst (λ (k : KeptMisses). MissesStandFor g.K.Shaped.shape k past) (sym c.self.view_is) stands)
