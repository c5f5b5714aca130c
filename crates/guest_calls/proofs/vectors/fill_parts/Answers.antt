use Rattle.std.proofs.Common.{arith, ◌∙◌}
use Rattle.guest_memory.specs.Guest.{memory_of}
use Rattle.guest_kernel.specs.declared.parts.IoVec.{IoVec}
use Rattle.guest_calls.specs.Outcome.{guest_of}
use Rattle.guest_calls.proofs.PartLists.{filled_next, rest_in_reach, total_from}
use Rattle.guest_kernel.proofs.Room.{room_filled}
use Rattle.guest_calls.proofs.vectors.fill_parts.Goals as goal

pub loop-p-preserved : goal.loop-p-preserved
loop-p-preserved c =
    let d : IoVec = record { at = 0; size = 0 } in
    let ps = c.args.parts.now in
    let i = c.loop-p.p-index in
    let old = c.loop-p.invariant in
    let inside = c.loop-p-test.true in
    let f = c.fill.ensures in
    let s = c.split_at.ensures in
    let room = room_filled _ _ _ _ f.events in
    let keeps = f.events.room in
    let more = old.room in
    let kept = old.kept in
    let sum = total_from ps i d inside in
    let long = old.all in
    let back = s.back_len in
    record {
      filled = filled_next ps i d c.loop-p.rest.now c.split_at.result.0.now c.split_at.result.1.now (guest_of c.loop-p.memory c.loop-p.held c.loop-p.events) (guest_of c.fill.new.memory c.fill.new.held c.fill.new.events) inside s.front s.back f.memory f.held f.events.list_is ∙ old.filled;
      reach = rest_in_reach (memory_of c.loop-p.memory) (memory_of c.fill.new.memory) _ _ ps i d inside f.memory old.reach;
      all = omega (arith, sum, long, back);
      room = omega (arith, room, more);
      kept = omega (arith, keeps, kept);
    }
