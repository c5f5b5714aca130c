use Rattle.std.proofs.Common.{refl, sym, subst}
use Rattle.cache_profile.specs.Profile.{KeptMisses, MayCome, MissesStandFor}
use Rattle.cache_profile.proofs.Following.{after_other, formed_next, may_calls, of_some}
use Rattle.cache_profile.proofs.profile.CacheProfile.pass.Goals as goal

pub apply-requires : goal.apply-requires
apply-requires g c = may_calls g.K.Shaped.shape _ c.args.e.now c.self.invariant (subst (λ (k : KeptMisses). MayCome k c.args.e.now) (sym c.self.view_is) c.requires.may)

pub returns-clause-stands : goal.returns-clause-stands
returns-clause-stands g c = λ past stands.
    let s = subst (λ (k : KeptMisses). MissesStandFor g.K.Shaped.shape k past) (sym c.self.view_is) stands in
    let may = subst (λ (k : KeptMisses). MayCome k c.args.e.now) (sym c.self.view_is) c.requires.may in
    after_other g.K.Shaped.shape past c.args.e.now _ _ c.requires.other s refl refl refl (c.in_ok-apply.ensures.stands past s.calls)
    (c.pass.ensures.stands past s.progress_is (formed_next g.K.Shaped.shape _ past c.args.e.now s may))

pub invariant_of-self-2 : goal.invariant_of-self-2
invariant_of-self-2 g c =
    of_some g.K.Shaped.shape _ _ c.args.e.now c.self.invariant (λ past s.
    let may = subst (λ (k : KeptMisses). MayCome k c.args.e.now) (sym c.self.view_is) c.requires.may in
    after_other g.K.Shaped.shape past c.args.e.now _ _ c.requires.other s refl refl refl (c.in_ok-apply.ensures.stands past s.calls)
    (c.pass.ensures.stands past s.progress_is (formed_next g.K.Shaped.shape _ past c.args.e.now s may)))
