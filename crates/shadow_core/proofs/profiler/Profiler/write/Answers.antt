use Rattle.trace_model.specs.declared.event_kinds.Event.TheVariants.{Write}
use Rattle.shadow_core.proofs.Profiled.{alive_here, lives_here}
use Rattle.shadow_core.proofs.profiler.Profiler.write.Goals as goal

pub access_of-requires : goal.access_of-requires
access_of-requires g c =
    let a = alive_here g.S.Stamp.MAX (Write c.args.tid c.args.first c.args.count) c.args.tid _ _ c.self.view_is c.requires c.requires.formed.0.0.0 in
    record { lives = lives_here _ c.args.tid a }
