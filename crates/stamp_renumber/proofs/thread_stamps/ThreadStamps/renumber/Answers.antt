use Rattle.std.proofs.Common.{ap, arith, map, sym, subst, All}
use Rattle.std.specs.Prelude.{Contains}
use Rattle.shadow_stack.specs.Frames.{starts_of}
use Rattle.stamp_renumber.specs.Costs.{stamps_of}
use Rattle.stamp_renumber.specs.Renumbered.{IsThreadRenumbered}
use Rattle.stamp_renumber.specs.Threads.{Stamped}
use Rattle.stamp_renumber.proofs.thread_stamps.ThreadStamps.renumber.Goals as goal

pub renew_frames-requires-clause-among : goal.renew_frames-requires-clause-among
renew_frames-requires-clause-among g c =
    subst (λ (s : Stamped). All (Contains (map g.S.Stamp.number_of c.args.starts.now)) (starts_of s.frames)) (sym c.self.view_is) c.requires.among

pub returns-clause-thread : goal.returns-clause-thread
returns-clause-thread g c =
    subst (λ (s : Stamped). IsThreadRenumbered (map g.S.Stamp.number_of c.args.starts.now) c.args.writes.now.pages s (record { frames = c.renew_frames.new.frames.list; spare = c.renew_frames.new.frames.spare; pages = c.renew_accesses.new.shadow.pages; calls = record { list = c.renew_frames.new.frames.calls; counts = c.self.inside.counts } })) c.self.view_is (record {
      frames = c.renew_frames.ensures.list;
      spare = c.renew_frames.ensures.spare;
      stamps = c.renew_accesses.ensures.stamps;
      covered = c.renew_accesses.ensures.covered;
      calls = λ i. record { list = c.renew_frames.ensures.calls i; counts = c.self.inside.counts };
    })

pub returns-clause-cost : goal.returns-clause-cost
returns-clause-cost g c =
    let is = ap stamps_of c.self.view_is in
    omega (arith, is, c.renew_frames.ensures.cost, c.renew_accesses.ensures.cost)
