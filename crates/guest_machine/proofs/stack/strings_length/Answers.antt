use Rattle.std.proofs.Common.{◌<◌, ap, arith, length, map, string_bytes}
use Rattle.guest_machine.specs.Start.{strings}
use Rattle.guest_machine.proofs.Stacks.{strings_within, too_long}
use Rattle.guest_machine.proofs.stack.strings_length.Goals as goal

pub returns-then-more-total : goal.returns-then-more-total
returns-then-more-total c =
    let within = strings_within c.args.arguments.now c.loop-argument.argument-index c.argument-item.result c.loop-argument-test.true in
    let more = ap length c.as_str-more.ensures.value in
    let item = ap (λ s. length (string_bytes s)) c.argument-item.is in
    let long : 65536 < length (strings (map string_bytes c.args.arguments.now)) = omega (arith, within, more, item, c.if-more-total.true, c.loop-argument.invariant.counted, c.loop-argument.invariant.limit) in
    too_long (map string_bytes c.args.arguments.now) long
