use Rattle.std.proofs.Common.{◌≡◌, map, take, string_bytes}
use Rattle.guest_machine.specs.Start.{strings}
use Rattle.guest_machine.proofs.stack.argument_bytes.Given as goal

abbrev pub invariant-loop-argument : goal.invariant-loop-argument
invariant-loop-argument l = l.bytes.items ≡ strings (map string_bytes (take l.argument-index l.arguments))
