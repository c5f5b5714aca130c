use Rattle.std.proofs.Common.{refl, sym, subst, arith}
use Rattle.trace_model.specs.Depth.{is_within}
use Rattle.trace_model.specs.Observing.{MayStepBy}
use Rattle.shadow_core.specs.Profiling.{StandsFor}
use Rattle.shadow_core.specs.State.{State}
use Rattle.shadow_core.proofs.Profiled.{alive_for_step, lives_here}
use Rattle.shadow_core.proofs.SamePages.{calls_alike, threads_alike}
use Rattle.shadow_core.proofs.Stepped.{may_step_once, steps_fit, steps_made}
use Rattle.shadow_core.proofs.Settled.{whole_steps}
use Rattle.shadow_core.proofs.profiler.Profiler.steps_on.Goals as goal

pub add_steps-requires-clause-lives : goal.add_steps-requires-clause-lives
add_steps-requires-clause-lives g c =
    let may = subst (λ (k : State). MayStepBy (StandsFor g.S.Stamp.MAX) (is_within g.S.Stamp.MAX) k c.args.tid c.args.count) (sym c.self.view_is) c.requires.may in
    lives_here _ c.args.tid (alive_for_step g.S.Stamp.MAX c.args.tid _ (may_step_once g.S.Stamp.MAX c.args.tid c.args.count _ may c.requires.some))

pub add_steps-requires-clause-fits : goal.add_steps-requires-clause-fits
add_steps-requires-clause-fits g c =
    (steps_fit g.S.Stamp.MAX c.args.tid c.args.count _ _ c.self.view_is c.requires.may c.requires.some).0

pub returns-clause-table : goal.returns-clause-table
returns-clause-table g c =
    steps_made g.S.Stamp.MAX c.args.tid c.args.count _ _ c.add_steps.new.self _ c.self.view_is c.requires.may c.requires.some
    c.requires.runs c.add_steps.ensures refl

pub returns-clause-pages : goal.returns-clause-pages
returns-clause-pages g c =
    let may = subst (λ (k : State). MayStepBy (StandsFor g.S.Stamp.MAX) (is_within g.S.Stamp.MAX) k c.args.tid c.args.count) (sym c.self.view_is) c.requires.may in
    threads_alike c.self.view_is refl refl (calls_alike c.self.inside.threads c.add_steps.new.self c.args.tid _
    (lives_here _ c.args.tid (alive_for_step g.S.Stamp.MAX c.args.tid _ (may_step_once g.S.Stamp.MAX c.args.tid c.args.count _ may c.requires.some))) c.add_steps.ensures)

pub overflow_add-self : goal.overflow_add-self
overflow_add-self g c =
    let fits = steps_fit g.S.Stamp.MAX c.args.tid c.args.count _ _ c.self.view_is c.requires.may c.requires.some in
    omega (arith, fits.1)

pub invariant_of-self : goal.invariant_of-self
invariant_of-self g c =
    whole_steps g.S.Stamp.MAX c.args.tid c.args.count _ c.args.self.now _ c.self.view_is c.requires.runs c.self.invariant (returns-clause-table g c) refl c.self.invariant.marked
