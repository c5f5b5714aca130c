use Rattle.std.proofs.Common.{◌≡◌, ◌≤◌, ◌-◌, ◌++◌, length, map, take}
use Rattle.trace_model.specs.declared.event_kinds.Event.TheVariants.{End}
use Rattle.guest_machine.proofs.step_events.add_ends.Given as goal

abbrev pub invariant-loop-hart : goal.invariant-loop-hart
invariant-loop-hart l = record {
  list : l.events.list ≡ l.fn.events.list ++ map (λ h. End h.0) (take l.hart-index l.harts);
  room : length l.harts - l.hart-index ≤ l.events.room;
}
