use Rattle.std.proofs.Common.{arith, ◌∙◌, ap, subst, sym}
use Rattle.run_profile.specs.Profile.{IsProfileOf, KeptRun}
use Rattle.run_profile.proofs.Profiles.{few_steps, is_deep, not_taken, passed, recorded, refused, settled, waits}
use Rattle.run_profile.proofs.profile.ProfileObserver.observe.Goals as goal

pub apply-requires : goal.apply-requires
apply-requires g c =
    let p = subst (λ (k : KeptRun g.row.K.Denot). IsProfileOf g.S.Stamp.MAX g.K.Keeper.holds k c.requires.past) (sym c.self.view_is)
    (c.make_ready.ensures.stands c.requires.past c.requires.now) in
    record { past = c.requires.past; now = p.stands; formed = c.requires.formed }

pub overflow_add-self : goal.overflow_add-self
overflow_add-self g c =
    let p = subst (λ (k : KeptRun g.row.K.Denot). IsProfileOf g.S.Stamp.MAX g.K.Keeper.holds k c.requires.past) (sym c.self.view_is)
    (c.make_ready.ensures.stands c.requires.past c.requires.now) in
    omega (arith, few_steps c.self.inside.steps c.steps_of.result c.args.e c.requires.past c.requires.formed.1 p.steps_are c.steps_of.ensures)

pub pass-requires : goal.pass-requires
pass-requires g c =
    let past = c.requires.past in
    let p = subst (λ (k : KeptRun g.row.K.Denot). IsProfileOf g.S.Stamp.MAX g.K.Keeper.holds k past) (sym c.self.view_is) (c.make_ready.ensures.stands past c.requires.now) in
    let none = ap (λ (k : KeptRun g.row.K.Denot). k.next) c.self.view_is ∙ c.in_ok-make_ready.ensures.settled c.if-not-branch.false in
    record {
      past = past;
      now = settled g.S.Stamp.MAX g.K.Keeper.holds _ past p none;
      formed = c.requires.formed;
      ends_are =
          c.deref.ensures.value
          ∙ recorded g.S.Stamp.MAX g.K.Keeper.holds _ past p none c.args.e c.apply.new.self _ c.apply.new.done.items c.clear.ensures.items (c.in-Ok.ensures.stands past p.stands);
    }

pub returns-then-not-pass-clause-observed : goal.returns-then-not-pass-clause-observed
returns-then-not-pass-clause-observed g c = λ past kept.
    let p = subst (λ (k : KeptRun g.row.K.Denot). IsProfileOf g.S.Stamp.MAX g.K.Keeper.holds k past) (sym c.self.view_is) (c.make_ready.ensures.stands past kept) in
    let none = ap (λ (k : KeptRun g.row.K.Denot). k.next) c.self.view_is ∙ c.in_ok-make_ready.ensures.settled c.if-not-branch.false in
    let taken = c.in-Ok.ensures.stands past p.stands in
    let ends = recorded g.S.Stamp.MAX g.K.Keeper.holds _ past p none c.args.e c.apply.new.self _ c.apply.new.done.items c.clear.ensures.items taken in
    waits g.S.Stamp.MAX g.K.Keeper.holds _ past p none c.args.e c.apply.new.self _ c.apply.new.done.items c.clear.ensures.items taken c.pass.new.self c.steps_of.result c.steps_of.ensures
    (subst (g.K.Keeper.holds c.pass.new.self past) c.deref.ensures.value
    (c.if-not-pass.ensures.passes past (settled g.S.Stamp.MAX g.K.Keeper.holds _ past p none) (c.deref.ensures.value ∙ ends)))

pub returns-then-not-pass-clause-too_deep : goal.returns-then-not-pass-clause-too_deep
returns-then-not-pass-clause-too_deep g c = λ past kept out.
    let p = subst (λ (k : KeptRun g.row.K.Denot). IsProfileOf g.S.Stamp.MAX g.K.Keeper.holds k past) (sym c.self.view_is) (c.make_ready.ensures.stands past kept) in
    let no = c.in-Ok.ensures.deep past p.stands (is_deep g.S.Stamp.MAX g.K.Keeper.holds _ past p c.args.e out) in
    absurd (cc)

pub returns-then-not-pass-clause-last : goal.returns-then-not-pass-clause-last
returns-then-not-pass-clause-last g c = λ past kept same.
    let p = subst (λ (k : KeptRun g.row.K.Denot). IsProfileOf g.S.Stamp.MAX g.K.Keeper.holds k past) (sym c.self.view_is) (c.make_ready.ensures.stands past kept) in
    let none = ap (λ (k : KeptRun g.row.K.Denot). k.next) c.self.view_is ∙ c.in_ok-make_ready.ensures.settled c.if-not-branch.false in
    recorded g.S.Stamp.MAX g.K.Keeper.holds _ past p none c.args.e c.apply.new.self _ c.apply.new.done.items c.clear.ensures.items (c.in-Ok.ensures.stands past p.stands)

pub returns-else-not-pass-clause-observed : goal.returns-else-not-pass-clause-observed
returns-else-not-pass-clause-observed g c = λ past kept.
    let p = subst (λ (k : KeptRun g.row.K.Denot). IsProfileOf g.S.Stamp.MAX g.K.Keeper.holds k past) (sym c.self.view_is) (c.make_ready.ensures.stands past kept) in
    let none = ap (λ (k : KeptRun g.row.K.Denot). k.next) c.self.view_is ∙ c.in_ok-make_ready.ensures.settled c.if-not-branch.false in
    let taken = c.in-Ok.ensures.stands past p.stands in
    let ends = recorded g.S.Stamp.MAX g.K.Keeper.holds _ past p none c.args.e c.apply.new.self _ c.apply.new.done.items c.clear.ensures.items taken in
    passed g.S.Stamp.MAX g.K.Keeper.holds _ past p none c.args.e c.apply.new.self _ c.apply.new.done.items c.clear.ensures.items taken c.pass.new.self c.steps_of.result c.steps_of.ensures
    c.apply.new.done.items
    (c.if-not-pass.ensures.passes past (settled g.S.Stamp.MAX g.K.Keeper.holds _ past p none) (c.deref.ensures.value ∙ ends))

pub returns-else-not-pass-clause-too_deep : goal.returns-else-not-pass-clause-too_deep
returns-else-not-pass-clause-too_deep g c = λ past kept out.
    let p = subst (λ (k : KeptRun g.row.K.Denot). IsProfileOf g.S.Stamp.MAX g.K.Keeper.holds k past) (sym c.self.view_is) (c.make_ready.ensures.stands past kept) in
    let no = c.in-Ok.ensures.deep past p.stands (is_deep g.S.Stamp.MAX g.K.Keeper.holds _ past p c.args.e out) in
    absurd (cc)

pub returns-else-not-pass-clause-last : goal.returns-else-not-pass-clause-last
returns-else-not-pass-clause-last g c = λ past kept same.
    let p = subst (λ (k : KeptRun g.row.K.Denot). IsProfileOf g.S.Stamp.MAX g.K.Keeper.holds k past) (sym c.self.view_is) (c.make_ready.ensures.stands past kept) in
    let none = ap (λ (k : KeptRun g.row.K.Denot). k.next) c.self.view_is ∙ c.in_ok-make_ready.ensures.settled c.if-not-branch.false in
    recorded g.S.Stamp.MAX g.K.Keeper.holds _ past p none c.args.e c.apply.new.self _ c.apply.new.done.items c.clear.ensures.items (c.in-Ok.ensures.stands past p.stands)

pub returns-in-Err-TooDeep-clause-observed : goal.returns-in-Err-TooDeep-clause-observed
returns-in-Err-TooDeep-clause-observed g c = λ past kept.
    let p = subst (λ (k : KeptRun g.row.K.Denot). IsProfileOf g.S.Stamp.MAX g.K.Keeper.holds k past) (sym c.self.view_is) (c.make_ready.ensures.stands past kept) in
    let none = ap (λ (k : KeptRun g.row.K.Denot). k.next) c.self.view_is ∙ c.in_ok-make_ready.ensures.settled c.if-not-branch.false in
    let out = refused g.S.Stamp.MAX g.K.Keeper.holds _ past p c.args.e (λ shallow. absurd (let no = c.in-Err-TooDeep.ensures.not_deep past p.stands shallow in cc)) in
    (not_taken g.S.Stamp.MAX g.K.Keeper.holds _ past p none c.apply.new.self c.apply.new.done.items c.in-Err-TooDeep.ensures.refused, out.1)

pub returns-in-Err-Memory-clause-too_deep : goal.returns-in-Err-Memory-clause-too_deep
returns-in-Err-Memory-clause-too_deep g c = λ past kept out.
    let p = subst (λ (k : KeptRun g.row.K.Denot). IsProfileOf g.S.Stamp.MAX g.K.Keeper.holds k past) (sym c.self.view_is) (c.make_ready.ensures.stands past kept) in
    let no = c.in-Err-Memory.ensures.deep past p.stands (is_deep g.S.Stamp.MAX g.K.Keeper.holds _ past p c.args.e out) in
    absurd (cc)
