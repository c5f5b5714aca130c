use Rattle.std.proofs.Common.{subst, sym}
use Rattle.trace_model.specs.declared.event_kinds.Event.TheVariants.{Step}
use Rattle.trace_model.specs.Observing.{MayTake}
use Rattle.shadow_core.specs.Profiling.{StandsFor}
use Rattle.shadow_core.specs.State.{State}
use Rattle.shadow_core.proofs.Profiled.{alive_for_step, lives_here}
use Rattle.shadow_core.proofs.profiler.Profiler.word_written.Goals as goal

pub access_of-requires : goal.access_of-requires
access_of-requires g c =
    let may = subst (λ (k : State). MayTake (StandsFor g.S.Stamp.MAX) k (Step c.args.tid)) (sym c.self.view_is) c.requires in
    record { lives = lives_here _ c.args.tid (alive_for_step g.S.Stamp.MAX c.args.tid _ may) }
