-- The room that events take.
use Rattle.std.proofs.Common.{◌≡◌, ℕ, zero, suc, ◌≤◌, ◌+◌, List, [], ◌∷◌, ◌++◌, length, length-append, append-nil, append_assoc, arith, ap, sym, ◌∙◌}
use Rattle.trace_model.specs.EventList.{EventList}
use Rattle.trace_model.specs.declared.event_kinds.Event.{Event}
use Rattle.guest_kernel.specs.Copies.{Adds, KeepsRoom, fill_event, read_event}

pub read_few : (tid at n : ℕ) → length (read_event tid at n) ≤ 1
read_few tid at zero = omega arith
read_few tid at (suc n) = omega arith

pub fill_few : (at n : ℕ) → length (fill_event at n) ≤ 1
fill_few at zero = omega arith
fill_few at (suc n) = omega arith

-- one event is pushed
pub pushed : (before after : EventList) (e : Event) → after.list ≡ before.list ++ e ∷ [] → before.room ≤ after.room + 1 → KeepsRoom before after
pushed before after e list room = let n = ap length list ∙ length-append before.list (e ∷ []) in omega (arith, n, room)

-- nothing is added
pub adds_none : (events : EventList) → Adds [] events events
adds_none events = record { list_is = sym (append-nil events.list); room = omega arith }

-- some events, and then more
pub adds_more : (some more : List Event) (before middle after : EventList) → Adds some before middle → Adds more middle after → Adds (some ++ more) before after
adds_more some more before middle after first second = record {
  list_is = second.list_is ∙ ap (λ (es : List Event). es ++ more) first.list_is ∙ append_assoc before.list some more;
  room = let a = first.room in let b = second.room in omega (arith, a, b);
}

-- what is left of the room
pub room_left : (events : List Event) (before after : EventList) → Adds events before after → before.room ≤ after.room + length events
room_left events before after adds =
    let n = ap length adds.list_is ∙ length-append before.list events in
    let kept = adds.room in
    omega (arith, n, kept)

pub room_read : (tid at n : ℕ) (before after : EventList) → Adds (read_event tid at n) before after → before.room ≤ after.room + 1
room_read tid at n before after adds =
    let left = room_left (read_event tid at n) before after adds in
    let few = read_few tid at n in
    omega (arith, left, few)

pub room_filled : (at n : ℕ) (before after : EventList) → Adds (fill_event at n) before after → before.room ≤ after.room + 1
room_filled at n before after adds =
    let left = room_left (fill_event at n) before after adds in
    let few = fill_few at n in
    omega (arith, left, few)
