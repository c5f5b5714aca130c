use Rattle.std.proofs.Common.{◌≡◌, ◌≤◌, map, take, length, string_bytes}
use Rattle.guest_machine.specs.Start.{strings}
use Rattle.guest_machine.proofs.stack.strings_length.Given as goal

abbrev pub invariant-loop-argument : goal.invariant-loop-argument
invariant-loop-argument l = record {
  counted : l.total ≡ length (strings (map string_bytes (take l.argument-index l.arguments)));
  limit : l.total ≤ 65536;
}
