use Rattle.std.proofs.Common.{[], refl}
use Rattle.trace_model.specs.declared.event_kinds.Event.TheVariants.{Read}
use Rattle.shadow_core.proofs.After.{access_then, alive_after, may_then, taken_after}
use Rattle.shadow_core.proofs.Applied.{deep_by_frames}
use Rattle.shadow_core.proofs.SamePages.{same_twice}
use Rattle.shadow_core.proofs.profiler.Profiler.read_after.Goals as goal

pub read_known_with-requires-clause-may : goal.read_known_with-requires-clause-may
read_known_with-requires-clause-may g c =
    may_then g.S.Stamp.MAX c.args.tid c.args.steps (Read c.args.tid c.args.w 1) c.args.self.now c.requires.may c.steps_on.new.self c.steps_on.ensures.table

pub read_known_with-requires-clause-place : goal.read_known_with-requires-clause-place
read_known_with-requires-clause-place g c =
    let a = alive_after g.S.Stamp.MAX c.args.tid c.args.steps (Read c.args.tid c.args.w 1) c.args.self.now c.requires.may c.requires.some in
    (access_then c.args.tid c.args.steps c.args.self.now c.steps_on.new.self a c.steps_on.ensures.state c.args.w _ _ c.requires.access).0

pub read_known_with-requires-clause-own : goal.read_known_with-requires-clause-own
read_known_with-requires-clause-own g c =
    let a = alive_after g.S.Stamp.MAX c.args.tid c.args.steps (Read c.args.tid c.args.w 1) c.args.self.now c.requires.may c.requires.some in
    (access_then c.args.tid c.args.steps c.args.self.now c.steps_on.new.self a c.steps_on.ensures.state c.args.w _ _ c.requires.access).1

pub returns-clause-stands : goal.returns-clause-stands
returns-clause-stands g c =
    let e = Read c.args.tid c.args.w 1 in
    taken_after g.S.Stamp.MAX c.args.tid c.args.steps e c.args.self.now c.requires.may c.steps_on.new.self c.steps_on.ensures.table
    c.read_known_with.new.self [] (deep_by_frames g.S.Stamp.MAX e c.steps_on.new.self) c.read_known_with.ensures.table refl

pub returns-clause-pages : goal.returns-clause-pages
returns-clause-pages g c = same_twice c.steps_on.ensures.pages c.read_known_with.ensures.pages
