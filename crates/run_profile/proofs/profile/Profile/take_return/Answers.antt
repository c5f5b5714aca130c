use Rattle.std.proofs.Common.{◌≡◌, ◌∙◌, ◌∷◌, [], ap, arith, refl, subst, sym}
use Rattle.std.specs.Prelude.{IfOk, None, Option}
use Rattle.std.specs.Option.{option_map_or}
use Rattle.trace_model.specs.declared.event_kinds.Event.TheVariants.{Ret}
use Rattle.trace_model.specs.declared.observer.Answer.{Answer}
use Rattle.trace_model.specs.declared.slow_profile.Done.{Done}
use Rattle.trace_model.specs.Depth.{is_within}
use Rattle.trace_model.specs.Observing.{ObservesAfter, result_of, with_steps}
use Rattle.shadow_core.specs.State.{State}
use Rattle.run_profile.specs.Profile.{IsProfileOf, KeptRun}
use Rattle.run_profile.proofs.Profiles.{few_more, not_some, passed_after, settled_of, waits_after}
use Rattle.run_profile.proofs.profile.Profile.take_return.Goals as goal

pub overflow_add-self : goal.overflow_add-self
overflow_add-self g c =
    let may = c.requires.may in
    let p = subst (λ (k : KeptRun g.row.K.Denot). IsProfileOf g.S.Stamp.MAX g.K.Keeper.holds k may.past) (sym c.self.view_is) may.now in
    omega (arith, few_more c.args.tid c.args.count may.past c.self.inside.steps c.requires.some may.formed.2 p.steps_are)

pub returns-then-pass : goal.returns-then-pass
returns-then-pass g c = record {
  observed = λ past kept fitting.
      let p = subst (λ (k : KeptRun g.row.K.Denot). IsProfileOf g.S.Stamp.MAX g.K.Keeper.holds k past) (sym c.self.view_is) kept in
      let none : c.self.inside.next ≡ None = not_some c.self.inside.next (sym c.is_some.ensures ∙ c.if-is_some.false) in
      let own = settled_of g.S.Stamp.MAX g.K.Keeper.holds _ past p none in
      let later = with_steps c.args.tid c.args.count past in
      let new = c.return_after.new.self in
      let ends = c.in-Some.ended ∷ [] in
      let taken = c.in-Some.ensures.stands past p.stands in (
        passed_after g.S.Stamp.MAX g.K.Keeper.holds c.args.tid c.args.count _ past own (Ret c.args.tid c.args.target) refl new ends taken c.pass.new.self _
            (c.if-pass.ensures.passes later (c.take_steps.ensures past own.kept) taken.recorded),
        taken.fits,
      );
}

pub hand_on-requires : goal.hand_on-requires
hand_on-requires g c =
    let may = c.requires.may in
    let p = subst (λ (k : KeptRun g.row.K.Denot). IsProfileOf g.S.Stamp.MAX g.K.Keeper.holds k may.past) (sym c.self.view_is) may.now in
    let none : c.self.inside.next ≡ None = not_some c.self.inside.next (sym c.is_some.ensures ∙ c.if-is_some.false) in
    let own = settled_of g.S.Stamp.MAX g.K.Keeper.holds _ may.past p none in
    let later = with_steps c.args.tid c.args.count may.past in
    let new = c.return_after.new.self in
    let ends = c.in-Some.ended ∷ [] in
    let taken = c.in-Some.ensures.stands may.past p.stands in
    record {
      past = Ret c.args.tid c.args.target ∷ later;
      now = waits_after g.S.Stamp.MAX g.K.Keeper.holds c.args.tid c.args.count _ may.past own (Ret c.args.tid c.args.target) refl new ends taken c.pass.new.self _
          (ap (λ (o : Option Done). option_map_or (λ one. one ∷ []) o c.self.inside.ended.items) c.keep_one.ensures)
          (c.if-pass.ensures.passes later (c.take_steps.ensures may.past own.kept) taken.recorded);
      formed = may.formed;
    }

pub returns-else-pass : goal.returns-else-pass
returns-else-pass g c = record {
  observed = subst (λ (a : Answer). IfOk (result_of a)
      (ObservesAfter (IsProfileOf g.S.Stamp.MAX g.K.Keeper.holds) (is_within g.S.Stamp.MAX) c.args.tid c.args.count (Ret c.args.tid c.args.target) c.args.self.now c.hand_on.new.self))
      (sym c.hand_on.ensures.taken)
      (λ past kept fitting.
      let p = subst (λ (k : KeptRun g.row.K.Denot). IsProfileOf g.S.Stamp.MAX g.K.Keeper.holds k past) (sym c.self.view_is) kept in
      let none : c.self.inside.next ≡ None = not_some c.self.inside.next (sym c.is_some.ensures ∙ c.if-is_some.false) in
      let own = settled_of g.S.Stamp.MAX g.K.Keeper.holds _ past p none in
      let later = with_steps c.args.tid c.args.count past in
      let new = c.return_after.new.self in
      let ends = c.in-Some.ended ∷ [] in
      let taken = c.in-Some.ensures.stands past p.stands in
      let waits = waits_after g.S.Stamp.MAX g.K.Keeper.holds c.args.tid c.args.count _ past own (Ret c.args.tid c.args.target) refl new ends taken c.pass.new.self _
      (ap (λ (o : Option Done). option_map_or (λ one. one ∷ []) o c.self.inside.ended.items) c.keep_one.ensures)
      (c.if-pass.ensures.passes later (c.take_steps.ensures past own.kept) taken.recorded) in
      (c.hand_on.ensures.stands (Ret c.args.tid c.args.target ∷ later) waits, taken.fits));
}

pub returns-in-None : goal.returns-in-None
returns-in-None g c =
    let old : KeptRun g.row.K.Denot = record { stamps = c.self.inside.profiler; kept = c.self.inside.kept; next = c.self.inside.next; ended = option_map_or (λ one. one ∷ []) c.self.inside.one c.self.inside.ended.items; steps = c.self.inside.steps } in
    let same = ap (λ (s : State). record old { stamps = s }) c.in-None.ensures.same ∙ c.self.view_is in
    record {
      observed = subst (λ (k : KeptRun g.row.K.Denot). IfOk (result_of c.return_apart-in-None.result)
          (ObservesAfter (IsProfileOf g.S.Stamp.MAX g.K.Keeper.holds) (is_within g.S.Stamp.MAX) c.args.tid c.args.count (Ret c.args.tid c.args.target) k c.return_apart-in-None.new.self))
          same c.return_apart-in-None.ensures.observed;
    }
