use Rattle.std.proofs.Common.{ap, arith}
use Rattle.call_tracker.specs.ThreadCalls.{Counts}
use Rattle.shadow_core.proofs.Popped.{calls_left, ended_on, frames_left, lives_on, none_ended, sums_left}
use Rattle.shadow_core.proofs.endings.end_many.Goals as goal

pub loop-count-init : goal.loop-count-init
loop-count-init g c =
    let space = c.requires.room in
    record {
      few = omega arith;
      ended = none_ended c.args.tid c.args.threads.now c.args.done.now.items c.requires.lives;
      cost = omega arith;
      lives = c.requires.lives;
      room = omega (arith, space);
    }

pub end_call-requires-clause-frames : goal.end_call-requires-clause-frames
end_call-requires-clause-frames g c =
    frames_left c.args.tid c.loop-count.count c.args.ended _ _ _ _ c.requires.lives c.loop-count.invariant.ended c.requires.frames c.loop-count-test.true

pub end_call-requires-clause-calls : goal.end_call-requires-clause-calls
end_call-requires-clause-calls g c =
    calls_left c.args.tid c.loop-count.count c.args.ended _ _ _ _ c.requires.lives c.loop-count.invariant.ended c.requires.calls c.loop-count-test.true

pub end_call-requires-clause-thread : goal.end_call-requires-clause-thread
end_call-requires-clause-thread g c = let same = ap (λ (k : Counts). k.thread) c.loop-count.invariant.ended.counts in omega (arith, c.requires.thread, same)

pub end_call-requires-clause-kernel : goal.end_call-requires-clause-kernel
end_call-requires-clause-kernel g c = let same = ap (λ (k : Counts). k.kernel) c.loop-count.invariant.ended.counts in omega (arith, c.requires.kernel, same)

pub end_call-requires-clause-sums : goal.end_call-requires-clause-sums
end_call-requires-clause-sums g c = sums_left c.args.tid c.loop-count.count c.args.ended _ _ _ _ c.requires.lives c.loop-count.invariant.ended c.requires.sums

pub loop-count-preserved : goal.loop-count-preserved
loop-count-preserved g c =
    let more = c.end_call.ensures in
    let room = c.loop-count.invariant.room in
    let test = c.loop-count-test.true in
    record {
      few = omega (arith, test);
      ended = ended_on c.args.tid c.loop-count.count _ _ _ _ _ _ c.requires.lives c.loop-count.invariant.ended more.ended;
      cost = omega (arith, more.cost, c.loop-count.invariant.cost);
      lives = lives_on c.args.tid 1 _ _ _ _ c.loop-count.invariant.lives more.ended;
      room = omega (arith, more.capacity, more.count, room, test);
    }
