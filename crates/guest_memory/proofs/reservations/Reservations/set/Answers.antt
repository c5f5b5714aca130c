use Rattle.std.proofs.Common.{◌<◌, ◌∙◌, arith, length-set}
use Rattle.guest_words.specs.declared.limits.TheConstants.{THREADS}
use Rattle.guest_memory.specs.Reserved.{without_thread}
use Rattle.guest_memory.specs.ReservedBy.{reserved_by}
use Rattle.guest_memory.proofs.Pigeons.{room_left, reserved_more, distinct_more}
use Rattle.guest_memory.proofs.reservations.Reservations.set.Goals as goal

pub listed : goal.listed
listed c =
    let after = c.forget.new.self in
    let room : after.count < THREADS = room_left after (without_thread (reserved_by c.args.self.now) c.args.tid) c.forget.ensures c.requires in
    omega (arith, after.places, room)

pub bounds-self-self : goal.bounds-self-self
bounds-self-self c = room_left c.forget.new.self (without_thread (reserved_by c.args.self.now) c.args.tid) c.forget.ensures c.requires

pub invariant_of-self : goal.invariant_of-self
invariant_of-self c =
    let after = c.forget.new.self in
    let room : after.count < THREADS = room_left after (without_thread (reserved_by c.args.self.now) c.args.tid) c.forget.ensures c.requires in
    record {
      places = length-set after.holders after.count (c.args.tid, c.args.word) ∙ after.places;
      few = omega (arith, room);
      distinct = distinct_more after (reserved_by c.args.self.now) c.args.tid c.args.word room c.forget.ensures;
    }

pub returns : goal.returns
unfolding reserved_by
returns c =
    let after = c.forget.new.self in
    let room : after.count < THREADS = room_left after (without_thread (reserved_by c.args.self.now) c.args.tid) c.forget.ensures c.requires in
    reserved_more after (reserved_by c.args.self.now) c.args.tid c.args.word room c.forget.ensures
