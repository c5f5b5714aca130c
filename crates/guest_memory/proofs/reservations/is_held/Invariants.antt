use Rattle.std.proofs.Common.{◌≡◌, drop}
use Rattle.guest_memory.specs.Holders.{held_in}
use Rattle.guest_memory.proofs.reservations.is_held.Given as goal

abbrev pub invariant-loop-place : goal.invariant-loop-place
invariant-loop-place l = held_in (drop l.place l.holders) l.tid ≡ held_in l.holders l.tid
