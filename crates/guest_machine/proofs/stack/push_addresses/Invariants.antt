use Rattle.std.proofs.Common.{◌≡◌, ◌+◌, ◌++◌, map, length, string_bytes}
use Rattle.std.specs.List.{flat_map}
use Rattle.std.specs.Int.{w32, to_le_bytes}
use Rattle.guest_machine.specs.Start.{string_addresses, strings}
use Rattle.guest_machine.proofs.stack.push_addresses.Given as goal

abbrev pub invariant-loop-rest : goal.invariant-loop-rest
invariant-loop-rest l = record {
  places : l.words.items ++ flat_map (λ n. to_le_bytes w32 n) (string_addresses l.at (map string_bytes l.rest)) ≡ l.fn.words.items ++ flat_map (λ n. to_le_bytes w32 n) (string_addresses l.fn.first (map string_bytes l.fn.arguments));
  ends : l.at + length (strings (map string_bytes l.rest)) ≡ l.fn.first + length (strings (map string_bytes l.fn.arguments));
}

abbrev pub decreases-loop-rest : goal.decreases-loop-rest
decreases-loop-rest l = length l.rest
