use Rattle.std.proofs.Common.{◌∙◌, ap, refl, sym, subst}
use Rattle.trace_model.specs.declared.event_kinds.Event.TheVariants.{Step}
use Rattle.trace_model.specs.Observing.{MayTake}
use Rattle.shadow_core.specs.State.{State, table_of_state}
use Rattle.stamp_table.specs.Renewal.{bounded_tick}
use Rattle.stamp_table.specs.Ticks.{table_after}
use Rattle.shadow_core.specs.Profiling.{StandsFor}
use Rattle.shadow_core.proofs.Profiled.{lives_after, may_advance, step_fits, stepped}
use Rattle.shadow_core.proofs.SamePages.{advanced_alike, calls_alike, seen_same}
use Rattle.shadow_core.proofs.Settled.{whole_anew}
use Rattle.shadow_core.proofs.profiler.Profiler.step_first.Goals as goal

pub advance-requires-clause-within : goal.advance-requires-clause-within
advance-requires-clause-within g c =
    (may_advance g.S.Stamp.MAX _ _ (subst (λ (k : State). MayTake (StandsFor g.S.Stamp.MAX) k (Step c.args.tid)) (sym c.self.view_is) c.requires)).within

pub advance-requires-clause-room : goal.advance-requires-clause-room
advance-requires-clause-room g c =
    (may_advance g.S.Stamp.MAX _ _ (subst (λ (k : State). MayTake (StandsFor g.S.Stamp.MAX) k (Step c.args.tid)) (sym c.self.view_is) c.requires)).room

pub advance-requires-clause-rising : goal.advance-requires-clause-rising
advance-requires-clause-rising g c =
    (may_advance g.S.Stamp.MAX _ _ (subst (λ (k : State). MayTake (StandsFor g.S.Stamp.MAX) k (Step c.args.tid)) (sym c.self.view_is) c.requires)).rising

pub advance-requires-clause-few : goal.advance-requires-clause-few
advance-requires-clause-few g c =
    (may_advance g.S.Stamp.MAX _ _ (subst (λ (k : State). MayTake (StandsFor g.S.Stamp.MAX) k (Step c.args.tid)) (sym c.self.view_is) c.requires)).few

pub add_steps-requires-clause-lives : goal.add_steps-requires-clause-lives
add_steps-requires-clause-lives g c =
    let may = subst (λ (k : State). MayTake (StandsFor g.S.Stamp.MAX) k (Step c.args.tid)) (sym c.self.view_is) c.requires in
    lives_after g.S.Stamp.MAX c.args.tid c.is_switch.result _ _ may c.advance.ensures.advanced

pub add_steps-requires-clause-fits : goal.add_steps-requires-clause-fits
add_steps-requires-clause-fits g c =
    let may = subst (λ (k : State). MayTake (StandsFor g.S.Stamp.MAX) k (Step c.args.tid)) (sym c.self.view_is) c.requires in
    step_fits g.S.Stamp.MAX c.args.tid c.is_switch.result _ _ may c.advance.ensures.advanced

pub returns-clause-table : goal.returns-clause-table
returns-clause-table g c =
    let may = subst (λ (k : State). MayTake (StandsFor g.S.Stamp.MAX) k (Step c.args.tid)) (sym c.self.view_is) c.requires in
    stepped g.S.Stamp.MAX c.args.tid c.is_switch.result _ c.add_steps.new.self _ may
    c.is_switch.ensures c.advance.ensures.advanced c.add_steps.ensures
    ∙ ap (λ (k : State). table_after (bounded_tick g.S.Stamp.MAX) (Step c.args.tid) (table_of_state k)) c.self.view_is

pub returns-clause-pages : goal.returns-clause-pages
returns-clause-pages g c =
    let may = subst (λ (k : State). MayTake (StandsFor g.S.Stamp.MAX) k (Step c.args.tid)) (sym c.self.view_is) c.requires in
    let lives = lives_after g.S.Stamp.MAX c.args.tid c.is_switch.result _ _ may c.advance.ensures.advanced in
    seen_same c.self.view_is (record {
      writes = c.advance.ensures.advanced.covered;
      marks = λ w. refl;
      accesses = λ u w.
          calls_alike c.advance.new.threads c.add_steps.new.self c.args.tid _ lives c.add_steps.ensures u w
          ∙ advanced_alike g.S.Stamp.MAX c.is_switch.result _ _ c.advance.ensures.advanced u w;
    })

pub invariant_of-self : goal.invariant_of-self
invariant_of-self g c =
    whole_anew g.S.Stamp.MAX (Step c.args.tid) c.args.self.now _ c.requires (returns-clause-table g c) refl (λ w h. c.self.invariant.marked w (sym (c.advance.ensures.advanced.covered w) ∙ h))
